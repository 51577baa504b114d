-- Arrays that a function gives: of each place, by `from_fn`, or of each element, by `map`.
use Rattle.std.proofs.Common.{◌≡◌, ℕ, zero, suc, ◌+◌, ◌≤◌, ◌<◌, List, length, get_or, map, sym, refl, ap, ◌∙◌, subst, ⊎_elim, arith}
use Rattle.std.specs.Array.{IsFromFnResult, IsFromFnResultFrom, IsMapOf, MapsFrom}
use Rattle.std.specs.Iterator.{ActsAs}
use Rattle.std.specs.List.{range_with_len}
use Rattle.std.proofs.lemmas.Bool.{cases_lt}
use Rattle.std.proofs.lemmas.List.FromFn.{fill_by_all}
use Rattle.std.proofs.lemmas.List.{ext_get_or, get_or-map, length-map}
use Rattle.std.specs.Fn.{Mut, Called}

module _ {F B : Type 0} (g : Mut F (ℕ × Unit {0}) B) (R : ℕ → B → Type 0) where
  -- at each place below n a call from a state in K gives what R allows there, and stays in K
  abbrev pub Keeps : (F → Type 0) → ℕ → Type 0
  Keeps K n = (k : ℕ) → k < n → (p : F) → K p → (r : B) (q : F) → Called g p (k, tt) r q → K q × R k r

  each : (K : F → Type 0) (f : F) → K f → (d : B) (ys : List B) (i n m : ℕ) → i + n ≡ m → Keeps K m → IsFromFnResultFrom g f ys i n → (k : ℕ) → i ≤ k → k < m → R k (get_or ys k d)
  each K f h d ys i zero m e a r k le lt = absurd (omega arith)
  each K f h d ys i (suc n) m e a (q, y, at, called, rest) k le lt =
      let here = a i (omega arith) f h y q called in
      ⊎_elim
      (λ (more : i < k). each K q here.0 d ys (i + 1) n m (omega arith) a rest k (omega arith) lt)
      (λ (last : k ≤ i). let same : i ≡ k = omega arith in subst (λ j. R j (get_or ys j d)) same (subst (R i) (sym (at.1 d)) here.1))
      (cases_lt i k)

  pub from_fn_keeps : (K : F → Type 0) (f : F) → K f → (d : B) (ys : List B) (n : ℕ) → Keeps K n → IsFromFnResult g f ys n → (k : ℕ) → k < n → R k (get_or ys k d)
  from_fn_keeps K f h d ys n a r k lt = let zero_on : 0 + n ≡ n = omega arith in each K f h d ys 0 n n zero_on a r.each k (omega arith) lt

  -- where the calls leave f as it was
  pub from_fn_each : (f : F) (d : B) (ys : List B) (n : ℕ) → ((k : ℕ) → k < n → (r : B) (q : F) → Called g f (k, tt) r q → (q ≡ f) × R k r) → IsFromFnResult g f ys n → (k : ℕ) → k < n → R k (get_or ys k d)
  from_fn_each f d ys n a =
      from_fn_keeps (λ p. p ≡ f) f refl d ys n (λ k lt p e r q called. a k lt r q (subst (λ s. Called g s (k, tt) r q) e called))

module _ {F B : Type 0} (g : Mut F (ℕ × Unit {0}) B) (h : ℕ → B) where
  pub from_fn_is : (f : F) (d : B) (ys : List B) (n : ℕ) → ((k : ℕ) → k < n → (r : B) (q : F) → Called g f (k, tt) r q → (q ≡ f) × (r ≡ h k)) → IsFromFnResult g f ys n → ys ≡ map h (range_with_len 0 n)
  from_fn_is f d ys n a r = fill_by_all h ys n d r.long (from_fn_each g (λ k y. y ≡ h k) f d ys n a r)

module _ {F A B : Type 0} (g : Mut F (A × Unit {0}) B) (h : A → B) where
  mapped : (f : F) (d : A) (e : B) (xs : List A) (ys : List B) (i n m : ℕ) → i + n ≡ m → ActsAs g f h → MapsFrom g f xs ys i n → (k : ℕ) → i ≤ k → k < m → get_or ys k e ≡ h (get_or xs k d)
  mapped f d e xs ys i zero m s a r k le lt = absurd (omega arith)
  mapped f d e xs ys i (suc n) m s a (q, x, y, from, at, called, rest) k le lt =
      let here = a x y q called in
      ⊎_elim
      (λ (more : i < k). mapped f d e xs ys (i + 1) n m (omega arith) a (subst (λ p. MapsFrom g p xs ys (i + 1) n) here.0 rest) k (omega arith) lt)
      (λ (last : k ≤ i). let same : i ≡ k = omega arith in subst (λ j. get_or ys j e ≡ h (get_or xs j d)) same (at.1 e ∙ here.1 ∙ ap h (sym (from.1 d))))
      (cases_lt i k)

  -- where the calls leave f as it was
  pub map_is : (f : F) (d : A) (e : B) (xs : List A) (ys : List B) (n : ℕ) → length xs ≡ n → ActsAs g f h → IsMapOf g f xs ys n → ys ≡ map h xs
  map_is f d e xs ys n l a r =
      let zero_on : 0 + n ≡ n = omega arith in
      let long : length (map h xs) ≡ length xs = length-map xs h in
      ext_get_or e ys (map h xs) (omega (arith, r.long)) (λ k lt. mapped f d e xs ys 0 n n zero_on a r.each k (omega arith) (omega (arith, r.long)) ∙ sym (get_or-map h xs k d e (omega (arith, r.long))))

mod SampleLaws
mod PlaceLaws
mod SweepLaws
mod CallLaws
mod OutputLaws

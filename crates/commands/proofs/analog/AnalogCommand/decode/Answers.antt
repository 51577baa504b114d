use Rattle.std.proofs.Common.{arith}
use Rattle.commands.proofs.Blocks.{scale_code, rate_code, integrate_code, delay_code}
use Rattle.commands.proofs.analog.AnalogCommand.decode.Goals as goal

pub returns-in-88-to-103 : goal.returns-in-88-to-103
returns-in-88-to-103 c = scale_code c.args.code _ (omega arith) (omega arith)

pub returns-in-104-to-115 : goal.returns-in-104-to-115
returns-in-104-to-115 c = rate_code c.args.code _ (omega arith) (omega arith)

pub returns-in-116-to-123 : goal.returns-in-116-to-123
returns-in-116-to-123 c = integrate_code c.args.code _ (omega arith) (omega arith)

pub returns-in-167-to-174 : goal.returns-in-167-to-174
returns-in-167-to-174 c = delay_code c.args.code _ (omega arith) (omega arith)

use Rattle.std.proofs.Common.{◌<◌, ◌^◌, arith}
use Rattle.json.proofs.Printed.Decimals.{IsNumber-decimal}
use Rattle.properties_checking.proofs.objects.write_number.Goals as goal

pub returns-in_err-key-clause-number : goal.returns-in_err-key-clause-number
returns-in_err-key-clause-number c = let below : c.args.count < 2 ^ 64 = omega arith in IsNumber-decimal c.args.count below

pub returns-clause-number : goal.returns-clause-number
returns-clause-number c = let below : c.args.count < 2 ^ 64 = omega arith in IsNumber-decimal c.args.count below

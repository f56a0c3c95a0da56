use Rattle.properties_text.proofs.UnitBlocks.{evens-picked, odds-picked}
use Rattle.properties_text.proofs.encoding.decode.split_units.Goals as goal

pub returns-in-LowFirst-clause-lows : goal.returns-in-LowFirst-clause-lows
returns-in-LowFirst-clause-lows c = rw c.in-LowFirst.is (evens-picked c.args.a c.args.b c.fits-a.0 c.fits-b.0)

pub returns-in-LowFirst-clause-highs : goal.returns-in-LowFirst-clause-highs
returns-in-LowFirst-clause-highs c = rw c.in-LowFirst.is (odds-picked c.args.a c.args.b c.fits-a.0 c.fits-b.0)

pub returns-in-HighFirst-clause-lows : goal.returns-in-HighFirst-clause-lows
returns-in-HighFirst-clause-lows c = rw c.in-HighFirst.is (odds-picked c.args.a c.args.b c.fits-a.0 c.fits-b.0)

pub returns-in-HighFirst-clause-highs : goal.returns-in-HighFirst-clause-highs
returns-in-HighFirst-clause-highs c = rw c.in-HighFirst.is (evens-picked c.args.a c.args.b c.fits-a.0 c.fits-b.0)

use Rattle.properties_tools.proofs.propedit.against.push_key.Goals as goal

pub returns-in-Missing : goal.returns-in-Missing
returns-in-Missing c = rw c.in-Missing.is c.push_missing.ensures

pub returns-in-Surplus : goal.returns-in-Surplus
returns-in-Surplus c = rw c.in-Surplus.is c.push_surplus.ensures

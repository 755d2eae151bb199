use Rattle.rule_trial.proofs.descent.Descent.+part.Given as goal

abbrev pub decreases-part : goal.decreases-part
decreases-part l = l.fuel

use Rattle.rule_trial.proofs.made.+write.Given as goal

abbrev pub decreases-write : goal.decreases-write
decreases-write l = l.fuel

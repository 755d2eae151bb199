use Rattle.flow.proofs.rounds.maximize_from_zero.Given as goal

abbrev pub ghost-run : goal.ghost-run
ghost-run g a = λ _. 0

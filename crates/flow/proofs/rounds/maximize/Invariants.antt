use Rattle.flow.proofs.rounds.maximize.Given as goal

abbrev pub ghost-run : goal.ghost-run
ghost-run g a = g.G.Network.initial a.network.now

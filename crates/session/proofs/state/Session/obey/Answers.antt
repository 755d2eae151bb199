use Rattle.std.proofs.Common.{refl}
use Rattle.session.proofs.Played.{opened, paged, called}
use Rattle.session.proofs.state.Session.obey.Goals as goal

pub returns-in-Book : goal.returns-in-Book
returns-in-Book c = opened _ _ _ _ c.in_ok-self.ensures refl _ c.in-Book.is refl refl

pub returns-in-Page : goal.returns-in-Page
returns-in-Page c =
    paged _ _ _ _ c.in_ok-self.ensures c.load.ensures.stage _ _ _ _ c.in-Page.is c.as_slice.ensures.value c.load.ensures.taken c.load.ensures.cases

pub returns-in-Add : goal.returns-in-Add
returns-in-Add c = called _ _ _ _ c.in_ok-self.ensures c.add_lot.ensures.stage _ _ _ c.in-Add.is c.add_lot.ensures.card c.add_lot.ensures.cases

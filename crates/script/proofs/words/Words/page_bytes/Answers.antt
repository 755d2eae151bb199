use Rattle.std.proofs.Common.{[], sym, ap, ◌∙◌, subst}
use Rattle.std.proofs.lemmas.Option.{MatchOption-at_some}
use Rattle.script.proofs.Lines.{Sofar, started, one_more, done}
use Rattle.script.proofs.words.Words.page_bytes.Goals as goal

pub loop-word-init : goal.loop-word-init
loop-word-init c =
    let rest = ap (λ w. w.now.rest.now) c.into_iter-word-iterator.ensures.into_iter_gives ∙ ap (λ w. w.rest.now) c.by_ref-word-items.ensures.value in
    subst (λ bs. Sofar c.args.self.now.rest.now bs c.into_iter-word-iterator.result.now.rest.now) (sym c.new-bytes.ensures.items)
    (subst (Sofar c.args.self.now.rest.now []) (sym rest) (started _))

pub loop-word-preserved : goal.loop-word-preserved
loop-word-preserved c =
    let byte = MatchOption-at_some _ _ _ c.in_ok-byte.ensures.ok_part c.hex_byte.ensures in
    subst (λ bs. Sofar c.args.self.now.rest.now bs c.next.new.self.now.rest.now) (sym c.in_ok-push.ensures.items)
    (one_more c.loop-word.invariant c.in-Some.ensures.steps byte)

pub returns : goal.returns
returns c = done c.loop-word.invariant c.in-None.ensures.steps.0

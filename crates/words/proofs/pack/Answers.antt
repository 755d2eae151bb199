use Rattle.std.proofs.Common.{◌≡◌, ◌+◌, ◌-◌, ◌^◌, ◌≤◌, min, false, length, get_or, take, sym, ap, ◌∙◌, subst, inl, inr, arith, pow_mono}
use Rattle.std.proofs.lemmas.Bool.{cases_lt}
use Rattle.std.proofs.lemmas.List.{get_or_past, length_push, length-reverse, length-take}
use Rattle.std.proofs.lemmas.Iterator.Adapters.{YieldsList-from_rev_slice}
use Rattle.std.proofs.lemmas.Iterator.Consumers.{YieldsList-turn, YieldsList-end}
use Rattle.words.specs.Word.{bit}
use Rattle.words.proofs.Word.{word, word_bits, word_below, word_none, word_more, word_whole, word_low, next_flag, bit_past}
use Rattle.words.proofs.pack.Goals as goal

pub loop-set-init : goal.loop-set-init
loop-set-init c = (omega arith, sym (word_none c.args.flags.now (min (length c.args.flags.now) 64 - 0)))

pub push-word-requires : goal.push-word-requires
push-word-requires c =
    let t = next_flag c.args.flags.now (min (length c.args.flags.now) 64) (length c.loop-set.yielded) c.in-Some.set.now (omega arith)
    (YieldsList-turn (YieldsList-from_rev_slice (take (min (length c.args.flags.now) 64) c.args.flags.now) cc) c.loop-set.yielded _ c.loop-set.yielded_by _ _ c.in-Some.set c.in-Some.is c.next.ensures.steps) in
    omega (arith, c.loop-set.invariant.1, word_low c.args.flags.now (min (length c.args.flags.now) 64 - length c.loop-set.yielded) (length c.loop-set.yielded) (omega (arith, t.0)))

pub loop-set-preserved : goal.loop-set-preserved
loop-set-preserved c =
    let t = next_flag c.args.flags.now (min (length c.args.flags.now) 64) (length c.loop-set.yielded) c.in-Some.set.now (omega arith)
    (YieldsList-turn (YieldsList-from_rev_slice (take (min (length c.args.flags.now) 64) c.args.flags.now) cc) c.loop-set.yielded _ c.loop-set.yielded_by _ _ c.in-Some.set c.in-Some.is c.next.ensures.steps) in
    let more = length_push c.loop-set.yielded c.in-Some.set in (
      omega (arith, more, t.0),
      subst (λ k. c.push-word.result ≡ word c.args.flags.now (min (length c.args.flags.now) 64 - k) k) (sym more)
          (word_more c.args.flags.now (min (length c.args.flags.now) 64) (length c.loop-set.yielded) c.loop-set.word c.push-word.result c.in-Some.set.now t.0 c.loop-set.invariant.1 t.1 c.push-word.ensures),
    )

pub returns-clause-bits : goal.returns-clause-bits
returns-clause-bits c = λ p h.
    let e : c.loop-set.word ≡ word c.args.flags.now 0 (min (length c.args.flags.now) 64) = word_whole c.args.flags.now (min (length c.args.flags.now) 64) (length c.loop-set.yielded) c.loop-set.word
    (let t = YieldsList-end (YieldsList-from_rev_slice (take (min (length c.args.flags.now) 64) c.args.flags.now) cc) c.loop-set.yielded _ c.loop-set.yielded_by _ _ c.in-None.is c.next.ensures.steps in
    omega (arith, t.1, length-reverse (take (min (length c.args.flags.now) 64) c.args.flags.now), length-take (min (length c.args.flags.now) 64) c.args.flags.now))
    c.loop-set.invariant.1 in
    ap (λ w. bit w p) e ∙ elim (cases_lt p (min (length c.args.flags.now) 64)) [
      | inl l ↦ let i : 0 + p ≡ p = omega arith in word_bits c.args.flags.now 0 (min (length c.args.flags.now) 64) p l ∙ ap (λ k. get_or c.args.flags.now k false) i
      | inr l ↦ bit_past _ (min (length c.args.flags.now) 64) p (word_below c.args.flags.now 0 (min (length c.args.flags.now) 64)) l ∙ sym (get_or_past c.args.flags.now p false (omega arith))
    ]

pub returns-clause-low : goal.returns-clause-low
returns-clause-low c =
    let e : c.loop-set.word ≡ word c.args.flags.now 0 (min (length c.args.flags.now) 64) = word_whole c.args.flags.now (min (length c.args.flags.now) 64) (length c.loop-set.yielded) c.loop-set.word
    (let t = YieldsList-end (YieldsList-from_rev_slice (take (min (length c.args.flags.now) 64) c.args.flags.now) cc) c.loop-set.yielded _ c.loop-set.yielded_by _ _ c.in-None.is c.next.ensures.steps in
    omega (arith, t.1, length-reverse (take (min (length c.args.flags.now) 64) c.args.flags.now), length-take (min (length c.args.flags.now) 64) c.args.flags.now))
    c.loop-set.invariant.1 in
    let m : min (length c.args.flags.now) 64 ≤ length c.args.flags.now = omega arith in
    let up : 2 ^ min (length c.args.flags.now) 64 ≤ 2 ^ length c.args.flags.now = pow_mono m in
    omega (arith, e, word_below c.args.flags.now 0 (min (length c.args.flags.now) 64), up)

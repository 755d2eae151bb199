-- The stack of answers as a number: what is put on it comes off again, and i steps leave it below 2 to the i-th.

use Rattle.std.proofs.Common.{◌≡◌, ℕ, ◌+◌, ◌*◌, ◌/◌, ◌^◌, ◌<◌, Bool, true, false, not, ◌&&◌, ◌||◌, List, [], ◌∷◌, ◌++◌, length, get_or, take, refl, ap, ◌∙◌, arith, pow-add}
use Rattle.std.proofs.lemmas.List.{take_more}
use Rattle.std.proofs.lemmas.Bool.{eq-eqb, ne_eqb}
use Rattle.grammar.specs.declared.Description.{Description}
use Rattle.grammar.specs.Grammar.{field, compares}
use Rattle.rule.specs.declared.steps.Step.{Step}
use Rattle.rule.specs.declared.steps.Step.TheVariants.{Test, Negate, Both, Either}
use Rattle.rule.specs.Stack.{onto, top, act, acts}

pub top_onto : (a : Bool) (p : ℕ) → top (onto a p) ≡ a
top_onto true p = eq-eqb _ 1 (omega arith)
top_onto false p = ne_eqb _ 1 (omega arith)

pub under_onto : (a : Bool) (p : ℕ) → onto a p / 2 ≡ p
under_onto true p = omega arith
under_onto false p = omega arith

pub acts-++ : (x : Description) (c d : List Step) (p : ℕ) → acts x (c ++ d) p ≡ acts x d (acts x c p)
acts-++ x [] d p = refl
acts-++ x (s ∷ c) d p = acts-++ x c d (act x s p)

pub acts_more : (x : Description) (c : List Step) (i : ℕ) (d : Step) → i < length c → acts x (take (i + 1) c) 0 ≡ act x (get_or c i d) (acts x (take i c) 0)
acts_more x c i d h = ap (λ v. acts x v 0) (take_more c i d h) ∙ acts-++ x (take i c) (get_or c i d ∷ []) 0

onto_below : (a : Bool) (p n : ℕ) → p < n → onto a p < 2 * n
onto_below true p n h = omega arith
onto_below false p n h = omega arith

act_below : (x : Description) (s : Step) (p n : ℕ) → p < n → act x s p < 2 * n
act_below x (Test f s k) p n h = onto_below (compares s (field f x) k) p n h
act_below x Negate p n h = onto_below (not (top p)) (p / 2) n (omega arith)
act_below x Both p n h = onto_below (top (p / 2) && top p) (p / 2 / 2) n (omega arith)
act_below x Either p n h = onto_below (top (p / 2) || top p) (p / 2 / 2) n (omega arith)

pub act_fits : (x : Description) (s : Step) (p i : ℕ) → p < 2 ^ i → act x s p < 2 ^ (i + 1)
act_fits x s p i h = omega (arith, act_below x s p (2 ^ i) h, pow-add 2 i 1)

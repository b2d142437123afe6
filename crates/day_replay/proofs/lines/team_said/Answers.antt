use Rattle.std.proofs.Common.{◌≡◌, ⊎_elim, [], ℕ, zero, suc, ◌+◌, List, ◌∷◌, ◌++◌, sym, ap, ◌∙◌, subst, arith}
use Rattle.std.specs.Prelude.{decimal, codes}
use Rattle.std.proofs.lemmas.Bool.{cases_lt}
use Rattle.day_replay.specs.Calls.{left_of}
use Rattle.day_replay.specs.Saying.{BeginsWith, Says}
use Rattle.day_replay.proofs.Fronts.{team_line, says_begins, begins_says}
use Rattle.day_replay.proofs.Taking.{none_beyond}
use Rattle.day_replay.proofs.lines.team_said.Goals as goal

-- what is in the front
front_of :
    (n : ℕ) (empty number front : List ℕ) → empty ≡ [] → number ≡ empty ++ decimal n
    → front ≡ number ++ codes " team " → front ≡ decimal n ++ codes " team "
front_of n empty number front none first then =
    then ∙ ap (λ (l : List ℕ). l ++ codes " team ") (first ∙ ap (λ (l : List ℕ). l ++ decimal n) none)

pub returns-in_default : goal.returns-in_default
returns-in_default c zero some says = absurd (omega (arith, some))
returns-in_default c (suc team) some says =
    absurd (no_front c.args.n team c.args.line.now c.bytes.result.now
    (c.bytes.ensures.value
    ∙ front_of c.args.n c.new-front.result c.push_count.new.self c.push_bytes.new.self
    c.new-front.ensures c.push_count.ensures c.push_bytes.ensures) c.in_default.ensures says)
  where
    no_front :
        (n team : ℕ) (line front : List ℕ) → front ≡ decimal n ++ codes " team "
        → ((rest : List ℕ) → line ≡ front ++ rest → ⊥)
        → Says n (suc team) line → ⊥
    no_front n team line front is none says =
        none ((decimal (suc team) ++ 32 ∷ []) ++ says.0) (team_line n team line front says is)

pub returns : goal.returns
returns c team some says =
    ⊎_elim (λ few. c.loop-place.invariant team some (omega (arith, few, c.loop-place-test.false)) says)
    (λ many. none_beyond c.args.left.now.teams.items team (omega (arith, many, c.requires)))
    (cases_lt team 17)

pub loop-place-preserved : goal.loop-place-preserved
loop-place-preserved c zero some few says = absurd (omega (arith, some))
loop-place-preserved c (suc team) some few says =
    ⊎_elim (λ before. c.loop-place.invariant (suc team) some (omega (arith, before)) says)
    (λ here.
    let same : c.loop-place.place + 1 ≡ suc team = omega (arith, here, few) in
    subst (λ (t : ℕ). left_of c.args.left.now.teams.items t ≡ []) same
    (c.is_next.ensures.other c.if-is_next.false
    (subst (λ (t : ℕ). BeginsWith t c.in-Some.rest.now) (sym same)
    (says_begins c.args.n team c.args.line.now c.bytes.result.now c.in-Some.rest.now
    (c.bytes.ensures.value
    ∙ front_of c.args.n c.new-front.result c.push_count.new.self c.push_bytes.new.self
    c.new-front.ensures c.push_count.ensures c.push_bytes.ensures) c.in-Some.ensures says))))
    (cases_lt team c.loop-place.place)

pub returns-then-is_next : goal.returns-then-is_next
returns-then-is_next c =
    let named = c.is_next.ensures.named c.if-is_next.true in
    let same : suc c.loop-place.place ≡ c.loop-place.place + 1 = omega arith in (
      omega arith,
      omega (arith, c.loop-place-test.true),
      subst (λ (t : ℕ). Says c.args.n t c.args.line.now) same
          (begins_says c.args.n c.loop-place.place c.args.line.now c.bytes.result.now c.in-Some.rest.now
          (c.bytes.ensures.value
          ∙ front_of c.args.n c.new-front.result c.push_count.new.self c.push_bytes.new.self
          c.new-front.ensures c.push_count.ensures c.push_bytes.ensures) c.in-Some.ensures
          (subst (λ (t : ℕ). BeginsWith t c.in-Some.rest.now) (sym same) named.0)),
      named.1,
    )

use Rattle.std.proofs.Common.{◌≡◌, ℕ, ◌+◌, List, [], ◌++◌, sym, ap, ◌∙◌, append-nil, arith, rules}
use Rattle.meek_trial.specs.Draws.{Drawing, drawn}
use Rattle.meek_trial.specs.Trial.{ballot, ballots}
use Rattle.meek_trial.proofs.Going.{ballots_none, ballots_go_on}
use Rattle.meek_trial.proofs.ballots.put_ballots.Goals as goal

pub loop-l-init : goal.loop-l-init
loop-l-init c = record {
  text =
      sym (append-nil c.args.text.now.items)
      ∙ ap (λ (t : List ℕ). c.args.text.now.items ++ t)
      (sym (ballots_none c.args.draws.now.number c.args.draws.now.taken));
  number = search rules;
  taken = omega arith;
}

pub loop-l-preserved : goal.loop-l-preserved
loop-l-preserved c =
    let number = c.args.draws.now.number in
    let k = c.args.draws.now.taken in
    let l = c.loop-l.l in
    let place : c.loop-l.draws.taken + 1 ≡ k + l + 1 = (let taken = c.loop-l.invariant.taken in omega (arith, taken)) in
    let drawn_is : c.draw.result ≡ drawn number (k + l + 1) =
    c.draw.ensures.value
    ∙ (ap (λ (n : ℕ). drawn n (c.loop-l.draws.taken + 1)) c.loop-l.invariant.number ∙ ap (drawn number) place)
    in
    let put : c.put_ballot.new.text.items ≡ c.loop-l.text.items ++ ballot l (drawn number (k + l + 1)) =
    c.in_ok-put_ballot.ensures ∙ ap (λ (x : ℕ). c.loop-l.text.items ++ ballot l x) drawn_is in
    record {
      text =
          ballots_go_on c.args.text.now.items c.loop-l.text.items c.put_ballot.new.text.items number k l
          c.loop-l.invariant.text put;
      number = ap (λ (d : Drawing). d.number) c.draw.ensures.taken ∙ c.loop-l.invariant.number;
      taken =
          (let taken =
          c.loop-l.invariant.taken in
          let more : c.draw.new.self.taken ≡ c.loop-l.draws.taken + 1 =
          ap (λ (d : Drawing). d.taken) c.draw.ensures.taken in
          omega (arith, taken, more));
    }

use Rattle.std.proofs.Common.{◌≡◌, ℕ, List, [], take, length, get_or, ◌∷◌, ◌++◌, append_assoc, arith, ap, sym}
use Rattle.std.proofs.Common.{◌∙◌, Vec, Global}
use Rattle.std.proofs.lemmas.List.{take_more, take_all}
use Rattle.blt_writer.proofs.packed.push_ranking.Goals as goal

pub overflow_cast-candidate : goal.overflow_cast-candidate
overflow_cast-candidate c =
    let small = (c.requires.candidates c.loop-candidate.candidate-index 0 c.loop-candidate-test.true).1 in
    omega (arith, small)

pub loop-candidate-preserved : goal.loop-candidate-preserved
loop-candidate-preserved c =
    let i = c.loop-candidate.candidate-index in
    let candidates = c.args.candidates.now in
    let begun = c.push_reserved.new.self.items in
    let pushed = c.push_reserved-in-loop-candidate.ensures in
    record {
      items = pushed.items
          ∙ ap (λ (l : List ℕ). l ++ get_or candidates i 0 ∷ []) c.loop-candidate.invariant.items
          ∙ append_assoc begun (take i candidates) (get_or candidates i 0 ∷ [])
          ∙ ap (λ (l : List ℕ). begun ++ l) (sym (take_more candidates i 0 c.loop-candidate-test.true));
      room = omega (arith, pushed.len, pushed.capacity, c.loop-candidate.invariant.room, c.loop-candidate-test.true);
    }

pub returns-clause-ranks : goal.returns-clause-ranks
returns-clause-ranks c =
    let candidates = c.args.candidates.now in
    let len = length candidates in
    let all : take c.loop-candidate.candidate-index candidates ≡ candidates =
    take_all c.loop-candidate.candidate-index candidates (omega (arith, c.loop-candidate-test.false)) in
    let begun : c.push_reserved.new.self.items ≡ c.args.ranks.now.items ++ len ∷ [] = c.push_reserved.ensures.items
    ∙ ap (λ (v : Vec ℕ Global). v.items ++ len ∷ []) c.replace-longer.ensures.value
    ∙ ap (λ (l : List ℕ). l ++ len ∷ []) c.reserve.ensures.items in
    c.loop-candidate.invariant.items
    ∙ ap (λ (l : List ℕ). c.push_reserved.new.self.items ++ l) all
    ∙ ap (λ (l : List ℕ). l ++ candidates) begun
    ∙ append_assoc c.args.ranks.now.items (len ∷ []) candidates

use Rattle.std.proofs.Common.{◌≡◌, ℕ, ◌+◌, ◌-◌, List, [], ◌∷◌, ◌++◌, slice_index_or, ap, sym, ◌∙◌, append_assoc, arith}
use Rattle.std.specs.Prelude.{decimal}
use Rattle.std.proofs.lemmas.Option.{get_or_from_slice_get}
use Rattle.candidate_roll.specs.State.{state_at}
use Rattle.candidate_roll.specs.declared.state.State.{State}
use Rattle.sheet_text.specs.Lines.{state_word, outcome_line}
use Rattle.sheet_text.proofs.outcome.push_outcome.Goals as goal

pub returns-clause-text : goal.returns-clause-text
unfolding outcome_line
returns-clause-text c =
    let names = c.args.roll.now.names in
    let name : slice_index_or names c.args.p [] ≡ c.name.result.now =
    ap (λ (p : ℕ). slice_index_or names p []) (omega arith)
    ∙ get_or_from_slice_get names (c.args.p + 1 - 1) c.name.result.now [] c.name.ensures in
    let number = decimal (c.args.p + 1) in
    let text =
    c.begin_candidate.ensures.text
    ∙ ap (λ (s : State). number ++ 32 ∷ state_word s ++ 32 ∷ []) c.get.ensures.state in
    c.push_bytes.ensures
    ∙ ap (λ (l : List ℕ). l ++ c.bytes.result.now) text
    ∙ append_assoc (number ++ 32 ∷ state_word (state_at c.args.states.now c.args.p)) (32 ∷ []) c.bytes.result.now
    ∙ ap (λ (l : List ℕ). number ++ 32 ∷ state_word (state_at c.args.states.now c.args.p) ++ 32 ∷ l)
    (c.bytes.ensures.value ∙ sym name)

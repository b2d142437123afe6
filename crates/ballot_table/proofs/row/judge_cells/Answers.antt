use Rattle.std.proofs.Common.{◌≡◌, ℕ, List, All, Some, length, sym, ap, ◌∙◌, subst}
use Rattle.std.specs.Option.{option_or, unwrap_or}
use Rattle.plain_ballots.specs.Ranking.{IsRanking}
use Rattle.ballot_marks.specs.declared.mark.Mark.{Mark}
use Rattle.ballot_marks.specs.Ballot.{IsRefusedAt, is_closed, is_cut, is_passed, ranked}
use Rattle.ballot_marks.specs.Marks.{SaysOneOf}
use Rattle.ballot_table.specs.Asked.{asked_of}
use Rattle.ballot_table.specs.Faults.{sound}
use Rattle.ballot_table.specs.Finding.{among, candidates_in}
use Rattle.ballot_table.specs.Refusals.{mark_fault}
use Rattle.ballot_table.specs.Rows.{cells_of}
use Rattle.ballot_table.specs.Held.{HolderList}
use Rattle.ballot_table.proofs.MarkFaultLemmas.{IsFound, mark_fault_is, no_mark_fault, said_found, same_marks, taken_within}
use Rattle.ballot_table.proofs.row.judge_cells.Goals as goal
use Rattle.ballot_table.proofs.row.judge_cells.Goals.{In_ok-say}

-- what is found of the cells, and among how many candidates
found : (c : In_ok-say)
    → IsFound c.args.asked.now.layout c.args.columns.now
    (sound (cells_of (asked_of c.args.asked.now) c.args.room c.args.columns.now c.args.sheet.now.texts)) c.say.new.self
found c =
    let read = c.in_ok-read.ensures.taken in
    said_found c.args.asked.now.layout c.args.columns.now c.args.places.now _ c.read.new.self c.say.new.self c.requires.places
    read.holding read.chosen read.saying
    c.in_ok-say.ensures.holders c.in_ok-say.ensures.said

counted : (c : In_ok-say) (n holding : ℕ) → n ≡ among c.args.asked.now.layout (length c.args.asked.now.candidates) holding
    → holding ≡ c.say.new.self.holders.candidates → n ≡ candidates_in (asked_of c.args.asked.now) c.args.columns.now
counted c n holding is held =
    is ∙ ap (among c.args.asked.now.layout (length c.args.asked.now.candidates))
    (held ∙ ap (λ (h : HolderList). h.candidates) c.in_ok-say.ensures.holders ∙ c.in_ok-read.ensures.taken.candidates)

pub treat-requires-clause-candidates : goal.treat-requires-clause-candidates
treat-requires-clause-candidates c =
    let at = (goal.at.treat-requires-clause-candidates c).In_ok-say in
    let n_is = counted at c.among-candidates.result c.candidates.result c.among-candidates.ensures c.candidates.ensures in
    subst (λ (n : ℕ). All (λ (m : Mark). SaysOneOf n m.says) c.marks.result.now) (sym n_is)
    (subst (λ (ms : List Mark). All (λ (m : Mark). SaysOneOf (candidates_in (asked_of c.args.asked.now) c.args.columns.now) m.says) ms)
    (sym c.marks.ensures)
    (taken_within (asked_of c.args.asked.now) c.args.room c.args.columns.now c.args.sheet.now.texts c.read.new.self c.say.new.self
    c.in_ok-read.ensures.taken (found at)))

pub returns-in-Ok : goal.returns-in-Ok
returns-in-Ok c =
    let at = (goal.at.returns-in-Ok c).In_ok-say in
    let a = asked_of c.args.asked.now in
    let t = c.args.asked.now.treatment in
    let columns = c.args.columns.now in
    let texts = c.args.sheet.now.texts in
    let read = c.in_ok-read.ensures.taken in
    let count = c.in_ok-say.ensures.count in
    let marks = c.marks.ensures ∙ same_marks a t c.args.room columns texts c.say.new.self (found at) in
    let n_is = counted at c.among-candidates.result c.candidates.result c.among-candidates.ensures c.candidates.ensures in
    record {
      no_fault = record {
        cells = c.in_ok-read.ensures.sound;
        marks =
            no_mark_fault a t c.args.room columns texts c.say.new.self (found at) c.in-Ok.treated.ranking
            (ap (ranked t) (sym c.marks.ensures) ∙ c.in-Ok.ensures.ranked);
      };
      is_judged = record {
        weight_is = c.unwrap_or.ensures ∙ ap (λ o. unwrap_or o 0) count ∙ read.weight;
        count = c.unwrap_or-in-Ok.ensures ∙ ap (λ o. unwrap_or o 1) count ∙ read.count;
        ranked_is = sym (ap (ranked t) marks) ∙ c.in-Ok.ensures.ranked;
        closed_is = c.in-Ok.ensures.closed ∙ ap (is_closed t) marks;
        passed_is = c.in-Ok.ensures.passed ∙ ap (is_passed t) marks;
        cut_is = c.in-Ok.ensures.cut ∙ ap (is_cut t) marks;
        sound = subst (λ (n : ℕ). IsRanking n c.in-Ok.treated.ranking) n_is c.in-Ok.ensures.sound;
      };
    }

pub returns-in-Err-Refused : goal.returns-in-Err-Refused
returns-in-Err-Refused c =
    let a = asked_of c.args.asked.now in
    let t = c.args.asked.now.treatment in
    let place = c.in-Err-Refused.place in
    let why = c.in-Err-Refused.why in
    let stop = rw c.in-Err-Refused.field-0-is at c.in-Err-Refused.ensures.stop in
    let refused = subst (λ (ms : List Mark). IsRefusedAt t ms place why) c.marks.ensures stop in
    ap (λ o. option_or o (mark_fault a t c.args.room c.args.columns.now c.args.sheet.now.texts)) c.in_ok-read.ensures.sound
    ∙ mark_fault_is a t c.args.room c.args.columns.now c.args.sheet.now.texts c.say.new.self
    (found (goal.at.returns-in-Err-Refused c).In_ok-say) place why refused
    ∙ (λ i. Some (record { kind = sym c.kind_of.ensures i; place = sym c.refused_column.ensures i }))

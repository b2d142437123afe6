-- A shard's book after one entry more.
use Rattle.std.proofs.Common.{◌≡◌, ℕ, ◌+◌, ◌≤◌, true, List, [], ◌∷◌, ◌++◌, length, sym, ap, ◌∙◌, subst}
use Rattle.std.specs.List.Sorted.{IsPermutation}
use Rattle.std.proofs.lemmas.List.Sorted.{length_permutation}
use Rattle.std.proofs.lemmas.List.Elements.{All-push}
use Rattle.plain_ballots.specs.declared.ballot_line.BallotLine.{BallotLine}
use Rattle.plain_ballots.specs.Ballots.{ballot_count, plain}
use Rattle.batch_core.specs.declared.change.Change.{Change}
use Rattle.batch_core.specs.declared.call.Call.TheVariants.{Change as Changes}
use Rattle.batch_core.specs.declared.entry.Entry.{Entry}
use Rattle.batch_core.specs.declared.reply.Reply.{Reply}
use Rattle.batch_core.specs.Book.{BookState, empty, reply, after, batch_of, ballots_of, ballot_lines, lines_of, standing}
use Rattle.batch_core.specs.Histories.{after_all}
use Rattle.batch_core.specs.Lawful.{IsInRange, IsLawful, MayStep, AreLawful}
use Rattle.batch_core.specs.Laws.{LeadsOn, OneBatchIsReplaced, FewEnoughToCount, StandsInTheBook}
use Rattle.shard_book.specs.Turnover.{is_done, if_done, AreExchanged}
use Rattle.shard_book.proofs.CountLemmas.{stand_now}
use Rattle.shard_book.proofs.StandingLemmas.{Joined, Reordered, ballots_moved, few_stand, few_moved}

abbrev pub entry_of : ℕ → Change → Reply → Entry
entry_of caller change answer = record { caller = caller; call = Changes change; reply = answer }

-- the trie has what stands, when it has followed the change
pub trie_then :
    OneBatchIsReplaced → Joined → Reordered → LeadsOn
    → (es : List Entry) (caller : ℕ) (change : Change) (answer : Reply) (at : List BallotLine)
    (old new : List (List ℕ))
    → IsInRange (batch_of change) → answer ≡ reply (after_all empty es) (Changes change)
    → at ≡ lines_of ((after_all empty es).batches (batch_of change))
    → IsPermutation old (plain (standing (after_all empty es)))
    → AreExchanged old (plain (if_done answer at)) (plain (if_done answer (ballot_lines (ballots_of change)))) new
    → IsPermutation new (plain (standing (after_all empty (es ++ entry_of caller change answer ∷ []))))
trie_then law joined reordered leads es caller change answer at old new range answered lines had exchanged =
    let book = after_all empty es in
    let k = batch_of change in
    let into = ballot_lines (ballots_of change) in
    let own =
    subst (λ (r : Reply). AreExchanged old (plain (if_done r (lines_of (book.batches k))))
    (plain (if_done r into)) new) answered
    (subst (λ (l : List BallotLine). AreExchanged old (plain (if_done answer l)) (plain (if_done answer into))
    new) lines exchanged) in
    subst (λ (b : BookState). IsPermutation new (plain (standing b))) (sym (leads es (entry_of caller change answer)))
    (stand_now old (plain (if_done (reply book (Changes change)) (lines_of (book.batches k))))
    (plain (if_done (reply book (Changes change)) into)) new
    (plain (standing book)) (plain (standing (after book (Changes change)))) had own
    (ballots_moved law joined reordered book change range))

-- there is room in the trie for the change's ballots
pub few_then :
    OneBatchIsReplaced → FewEnoughToCount → StandsInTheBook → LeadsOn
    → ((lines : List BallotLine) → length (plain lines) ≡ ballot_count lines)
    → (candidates : ℕ) (es : List Entry) (caller : ℕ) (change : Change) (answer : Reply)
    (at : List BallotLine) (old : List (List ℕ))
    → IsInRange (batch_of change) → AreLawful candidates es → IsLawful candidates change
    → answer ≡ reply (after_all empty es) (Changes change) → at ≡ lines_of ((after_all empty es).batches (batch_of change))
    → IsPermutation old (plain (standing (after_all empty es))) → is_done answer ≡ true
    → length old + ballot_count (ballot_lines (ballots_of change)) ≤ 999999999 + ballot_count at
few_then law few stands leads count candidates es caller change answer at old range lawful may answered lines had done =
    let book = after_all empty es in
    let e = entry_of caller change answer in
    let after_it : ballot_count (standing (after book (Changes change))) ≤ 999900000 =
    subst (λ (b : BookState). ballot_count (standing b) ≤ 999900000) (leads es e)
    (few_stand few stands candidates (es ++ e ∷ []) (All-push (λ (f : Entry). MayStep candidates f.call) es e lawful may)) in
    let total : length old ≡ ballot_count (standing book) =
    sym (length_permutation old (plain (standing book)) had) ∙ count (standing book) in
    subst (λ (l : List BallotLine). length old + ballot_count (ballot_lines (ballots_of change))
    ≤ 999999999 + ballot_count l) (sym lines)
    (few_moved law book change (length old) range total after_it (ap is_done (sym answered) ∙ done))

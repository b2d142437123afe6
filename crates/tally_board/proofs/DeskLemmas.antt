-- What a scribe knows after a move, and after a publication.
use Rattle.std.proofs.Common.{◌≡◌, ℕ, List, [], ◌∷◌, ◌++◌, fold, sym, ap, ◌∙◌, subst}
use Rattle.std.proofs.lemmas.List.{append-nil, append_assoc}
use Rattle.left_right.specs.Register.{TurnsAt}
use Rattle.tally_board.specs.declared.ballot_move.Move.{Move}
use Rattle.tally_board.specs.declared.board.Board.{Board}
use Rattle.tally_board.specs.declared.entry.Entry.{Entry}
use Rattle.tally_board.specs.declared.board_view.BoardView.{BoardView}
use Rattle.tally_board.specs.Moves.{CanMove, IsStory, totals_after}
use Rattle.tally_board.specs.Rule.{IsNoted, Keeps, Looks, candidates_of, shown}
use Rattle.tally_board.specs.Desk.{AreNoted, IsNewDesk, IsScribe, steps}
use Rattle.tally_board.specs.Told.{Told, front}
use Rattle.tally_board.proofs.MoveLemmas.{story_more}
use Rattle.tally_board.proofs.RuleLemmas.{absorbed, looks, newest, newest_noted, noted_more, steps_push}

-- one move more, with a note of all before it
pub scribe_more :
    (v : BoardView) (b : Board) (es es' : List Entry) (e : Entry) (all all' : Told) → IsScribe v b es all
    → es' ≡ es ++ e ∷ [] → e.before ≡ all
    → CanMove (totals_after (candidates_of b) (shown b ++ steps es)) e.step
    → all' ≡ record { board = all.board; moves = all.moves ++ e.step ∷ [] } → IsScribe v b es' all'
scribe_more v b es es' e all all' is longer noted can more =
    let same : all'.board ≡ all.board = ap (λ t. t.board) more in
    let before : e.before ≡ record { board = all.board; moves = shown b ++ steps es } =
    noted ∙ (λ i. record { board = all.board; moves = is.moves i }) in
    let pushed : steps es' ≡ steps es ++ e.step ∷ [] = ap steps longer ∙ steps_push es e in record {
      candidates = is.candidates;
      home = is.home;
      board = is.board ∙ sym same;
      noted = is.noted;
      entries_noted =
          subst (λ z. AreNoted z (shown b) es') (sym same) (subst (AreNoted all.board (shown b)) (sym longer)
          (noted_more all.board (shown b) es e is.entries_noted before));
      moves =
          ap (λ t. t.moves) more
          ∙ (ap (λ ms. ms ++ e.step ∷ []) is.moves
          ∙ (append_assoc (shown b) (steps es) (e.step ∷ [])
          ∙ ap (λ ms. shown b ++ ms) (sym pushed)));
      story = story_more (candidates_of b) (shown b) (steps es) (steps es') e.step is.story can pushed;
    }

-- what both copies have in common
abbrev pub taken : Board → ℕ × (List Move × Told)
taken b = (candidates_of b, (shown b, b.before))

-- the board went on by these entries
abbrev pub Took : Board → Board → List Entry → Type 0
Took b next es =
    taken next
    ≡ fold (λ (s : ℕ × (List Move × Told)) (e : Entry). (s.0, (s.1.0 ++ e.step ∷ [], e.before))) (taken b) es

-- a board without moves stays so
pub begins_on :
    (seat : ℕ) (v : BoardView) (b next : Board) (es : List Entry) → es ≡ [] → shown b ≡ [] → b.before.moves ≡ []
    → Took b next es → TurnsAt Keeps seat v b next Looks
begins_on seat v b next es none bare unnoted took =
    let same : taken next ≡ taken b =
    took
    ∙ ap (λ xs. fold (λ (s : ℕ × (List Move × Told)) (e : Entry). (s.0, (s.1.0 ++ e.step ∷ [], e.before)))
    (taken b) xs) none in
    let moves : shown next ≡ shown b = ap (λ (t : ℕ × (List Move × Told)). t.1.0) same in
    let note : next.before ≡ b.before = ap (λ (t : ℕ × (List Move × Told)). t.1.1) same in
    looks seat v b next (ap (λ t. t.board) (sym note)) (ap (λ (t : ℕ × (List Move × Told)). t.0) (sym same))
    ([], moves ∙ sym (append-nil (shown b)))
    (subst (λ (ms : List Move). ∥ IsStory (candidates_of next) ms ∥₁) (sym (moves ∙ bare)) ∣ tt ∣₁)
    (ap (λ t. t.moves) note ∙ (unnoted ∙ ap front (sym (moves ∙ bare))))

-- and its scribe is that of a new board
pub begun :
    (n : ℕ) (all : Told) (v w : BoardView) (b next : Board) (es left : List Entry) → es ≡ [] → left ≡ [] → shown b ≡ []
    → candidates_of b ≡ n → b.before ≡ all → all.moves ≡ [] → Took b next es → Looks v b next w
    → IsNewDesk all n w next left
begun n all v w b next es left none nothing bare counted noted fresh took saw =
    let same : taken next ≡ taken b =
    took
    ∙ ap (λ xs. fold (λ (s : ℕ × (List Move × Told)) (e : Entry). (s.0, (s.1.0 ++ e.step ∷ [], e.before)))
    (taken b) xs) none in
    let moves : shown next ≡ [] = ap (λ (t : ℕ × (List Move × Told)). t.1.0) same ∙ bare in
    let note : next.before ≡ all = ap (λ (t : ℕ × (List Move × Told)). t.1.1) same ∙ noted in
    let nil : shown next ++ steps left ≡ shown next = ap (λ xs. shown next ++ steps xs) nothing ∙ append-nil (shown next) in
    record {
      scribe = record {
        candidates = ap (λ u. u.candidates) saw.0;
        home = ap (λ u. u.home) saw.0;
        board = ap (λ t. t.board) note;
        noted = saw.3;
        entries_noted = subst (λ (xs : List Entry). AreNoted all.board (shown next) xs) (sym nothing) tt;
        moves = fresh ∙ sym (nil ∙ moves);
        story = subst (λ (ms : List Move). ∥ IsStory (candidates_of next) ms ∥₁) (sym nil) saw.2;
      };
      counted = ap (λ (t : ℕ × (List Move × Told)). t.0) same ∙ counted;
      bare = moves;
      none = nothing;
    }

module _ (v : BoardView) (b next : Board) (es : List Entry) (all : Told) (is : IsScribe v b es all)
    (took : Took b next es) where
  all_of : taken next ≡ (candidates_of b, (shown b ++ steps es, newest b.before es))
  all_of = took ∙ absorbed (candidates_of b) (shown b) b.before es

  pub same_candidates : candidates_of next ≡ candidates_of b
  same_candidates = ap (λ (t : ℕ × (List Move × Told)). t.0) all_of

  pub shows_all : shown next ≡ shown b ++ steps es
  shows_all = ap (λ (t : ℕ × (List Move × Told)). t.1.0) all_of

  notes : (next.before.board ≡ all.board) × IsNoted next
  notes =
      let last = newest_noted all.board (shown b) b.before es is.board is.noted is.entries_noted in
      let note : next.before ≡ newest b.before es = ap (λ (t : ℕ × (List Move × Told)). t.1.1) all_of in
      (ap (λ t. t.board) note ∙ last.0, ap (λ t. t.moves) note ∙ (last.1 ∙ ap front (sym shows_all)))

  all_story : ∥ IsStory (candidates_of next) (shown next) ∥₁
  all_story = subst (λ (t : ℕ × List Move). ∥ IsStory t.0 t.1 ∥₁) (λ i. (sym same_candidates i, sym shows_all i)) is.story

  pub publishes : (seat : ℕ) → TurnsAt Keeps seat v b next Looks
  publishes seat = looks seat v b next (is.board ∙ sym notes.0) (sym same_candidates) (steps es, shows_all) all_story notes.1

  pub scribe_after : (w : BoardView) → Looks v b next w → IsScribe w next [] all
  scribe_after w saw = record {
    candidates = ap (λ u. u.candidates) saw.0;
    home = ap (λ u. u.home) saw.0;
    board = notes.0;
    noted = notes.1;
    entries_noted = tt;
    moves = is.moves ∙ (sym shows_all ∙ sym (append-nil (shown next)));
    story = subst (λ (ms : List Move). ∥ IsStory (candidates_of next) ms ∥₁) (sym (append-nil (shown next))) all_story;
  }

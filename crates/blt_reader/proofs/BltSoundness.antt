-- What the table of ballot files accepts so far is a front part of a file.
use Rattle.std.proofs.Common.{◌≡◌, ℕ, ◌+◌, ◌<◌, ◌≤◌, List, [], ◌∷◌, ◌++◌, length, map, false, refl, sym, ◌∙◌}
use Rattle.std.proofs.Common.{ap, subst, arith, append_assoc, nat_le, ◌==◌, Ok, Err}
use Rattle.std.specs.Prelude.{All}
use Rattle.std.proofs.lemmas.Bool.{leb-true, eqb-true, cond_both}
use Rattle.std.proofs.lemmas.List.{append-nil, map-append, length_push}
use Rattle.std.proofs.lemmas.List.Elements.{All-nil, All-push}
use Rattle.plain_ballots.specs.declared.ballot_line.BallotLine.{BallotLine}
use Rattle.candidate_roll.specs.declared.limits.TheConstants.{MOST_NAME_BYTES, MOST_TITLE_BYTES}
use Rattle.input_text.specs.Token.{Item, Number, Minus, Text}
use Rattle.candidate_roll.specs.Roll.{withdrawn_marks}
use Rattle.blt_reader.specs.Poll.{Poll}
use Rattle.input_text.specs.Range.{IsIn, is_in}
use Rattle.blt_reader.specs.Blt.{AreLines, opening, ballots, IsUpToTitle, IsBlt}
use Rattle.input_text.specs.Judged.{Judged, Progress, GoesOn, Ends}
use Rattle.blt_reader.specs.BallotTable.{Limit, Lines, Between, at_line}
use Rattle.blt_reader.specs.BltTable.{Heading, Expected, Candidates, Seats, Withdrawn, Ballots, Name, Title}
use Rattle.blt_reader.specs.BltTable.{within_ballots, behind_name, poll_of, at_token, at_file_token}
use Rattle.blt_reader.specs.Front.{opening_of, begun, AreBegun, IsInBallots, IsInNames, IsFront, IsRollFront, IsFileFront}
use Rattle.blt_reader.specs.Said.{at_roll_token}
use Rattle.input_text.proofs.Judgements.{refused, same_value, passed, in_range}
use Rattle.blt_reader.proofs.BallotSoundness.{no_lines, line_goes_on}

below : (k n c : ℕ) → k ≡ n + 1 → n < c → (k == c) ≡ false → k < c
below k n c is less differs = grind arith

module _ (most : ℕ) (heading : Heading) where
  was : List Item
  was = opening_of heading

  one_withdrawn :
      (n : ℕ) (items : List Item) → IsInBallots most heading (Between []) items → IsIn heading.candidates n
      → IsInBallots most (record heading { withdrawn = heading.withdrawn ++ n ∷ [] }) (Between []) (items ++ Minus n ∷ [])
  unfolding was
  one_withdrawn n items front is = record {
    numbers = record {
      candidates = front.numbers.candidates;
      seats = front.numbers.seats;
      each_withdrawn = All-push (IsIn heading.candidates) heading.withdrawn n front.numbers.each_withdrawn is;
    };
    so_far = front.so_far;
    spelled = ap (λ (l : List Item). l ++ Minus n ∷ []) (front.spelled ∙ append-nil was)
        ∙ ap (λ (l : List Item). Number heading.candidates ∷ Number heading.seats ∷ l)
        (sym (map-append Minus heading.withdrawn (n ∷ [])))
        ∙ sym (append-nil (opening heading.candidates heading.seats (heading.withdrawn ++ n ∷ [])));
  }

  in_ballots :
      (lines next : Lines) (x : Item) (items : List Item) → IsInBallots most heading lines items
      → AreBegun heading.candidates most next → begun next ≡ begun lines ++ x ∷ []
      → IsInBallots most heading next (items ++ x ∷ [])
  unfolding was
  in_ballots lines next x items front so_far spelled = record {
    numbers = front.numbers;
    so_far = so_far;
    spelled = ap (λ (l : List Item). l ++ x ∷ []) front.spelled
        ∙ append_assoc was (begun lines) (x ∷ [])
        ∙ ap (λ (l : List Item). was ++ l) (sym spelled);
  }

  all_ballots :
      (before : Lines) (lines : List BallotLine) (x : Item) (items : List Item) → IsInBallots most heading before items
      → AreLines heading.candidates most lines → ballots lines ≡ begun before ++ x ∷ []
      → IsInNames most heading lines [] (items ++ x ∷ [])
  unfolding was
  all_ballots before lines x items front are spelled = record {
    numbers = front.numbers;
    all_lines = are;
    so_far = All-nil (λ (name : List ℕ). length name ≤ MOST_NAME_BYTES);
    spelled = ap (λ (l : List Item). l ++ x ∷ []) front.spelled
        ∙ append_assoc was (begun before) (x ∷ [])
        ∙ ap (λ (l : List Item). was ++ l) (sym spelled ∙ sym (append-nil (ballots lines)));
  }

  named :
      (lines : List BallotLine) (names : List (List ℕ)) (name : List ℕ) (items : List Item)
      → IsInNames most heading lines names items → length names < heading.candidates → length name ≤ MOST_NAME_BYTES
      → IsFront most (behind_name heading lines (names ++ name ∷ [])) (items ++ Text name ∷ [])
  unfolding was
  named lines names name items front fewer short =
      let now : IsInNames most heading lines (names ++ name ∷ []) (items ++ Text name ∷ []) = record {
        numbers = front.numbers;
        all_lines = front.all_lines;
        so_far = All-push (λ (n : List ℕ). length n ≤ MOST_NAME_BYTES) names name front.so_far short;
        spelled = ap (λ (l : List Item). l ++ Text name ∷ []) front.spelled
            ∙ append_assoc was (ballots lines ++ map Text names) (Text name ∷ [])
            ∙ ap (λ (l : List Item). was ++ l)
            (append_assoc (ballots lines) (map Text names) (Text name ∷ [])
            ∙ ap (λ (l : List Item). ballots lines ++ l) (sym (map-append Text names (name ∷ []))));
      } in
      cond_both (length (names ++ name ∷ []) == heading.candidates) (Title heading lines (names ++ name ∷ []))
      (Name heading lines (names ++ name ∷ [])) (λ s. IsFront most s (items ++ Text name ∷ []))
      (λ full. (now, eqb-true (length (names ++ name ∷ [])) heading.candidates full))
      (λ differs. (
        now,
        below (length (names ++ name ∷ [])) (length names) heading.candidates (length_push names name) fewer
            differs,
      ))

  titled :
      (lines : List BallotLine) (names : List (List ℕ)) (title : List ℕ) (items : List Item)
      → IsInNames most heading lines names items → length names ≡ heading.candidates → length title ≤ MOST_TITLE_BYTES
      → IsUpToTitle most (items ++ Text title ∷ []) (poll_of heading lines names title)
  unfolding was
  titled lines names title items front same short = record {
    withdrawn = heading.withdrawn;
    spelled = ap (λ (l : List Item). l ++ Text title ∷ []) front.spelled
        ∙ append_assoc was (ballots lines ++ map Text names) (Text title ∷ [])
        ∙ ap (λ (l : List Item). was ++ l) (append_assoc (ballots lines) (map Text names) (Text title ∷ []))
        ∙ ap (λ (c : ℕ). opening c heading.seats heading.withdrawn
        ++ (ballots lines ++ (map Text names ++ Text title ∷ []))) (sym same);
    candidates = subst (IsIn 250) (sym same) front.numbers.candidates;
    seats = front.numbers.seats;
    each_withdrawn = subst (λ (c : ℕ). All (IsIn c) heading.withdrawn) (sym same) front.numbers.each_withdrawn;
    marks = ap (λ (c : ℕ). withdrawn_marks c heading.withdrawn) (sym same);
    lines = subst (λ (c : ℕ). AreLines c most lines) (sym same) front.all_lines;
    names = front.so_far;
    title = short;
  }

module _ (limit : Limit) where
  -- after an item of the ballots
  ballots_go_on :
      (heading : Heading) (lines : Lines) (x : Item) (next : Progress Expected Poll) (items : List Item)
      (judged : Judged (Progress Lines (List BallotLine))) → IsInBallots limit.most heading lines items
      → at_line heading.candidates limit lines x ≡ judged → within_ballots heading judged ≡ Ok next
      → IsRollFront limit.most next (items ++ x ∷ [])
  ballots_go_on heading lines x next items (Err kind) front is e = absurd (refused e)
  ballots_go_on heading lines x next items (Ok (GoesOn l)) front is e =
      let more = line_goes_on heading.candidates limit lines (GoesOn l) x front.so_far is in
      subst (λ s. IsRollFront limit.most s (items ++ x ∷ [])) (same_value e) (
        in_ballots limit.most heading lines l x items front more.0 more.1,
        omega (arith, ap length more.1, length_push (begun lines) x),
      )
  ballots_go_on heading lines x next items (Ok (Ends l)) front is e =
      let more = line_goes_on heading.candidates limit lines (Ends l) x front.so_far is in
      subst (λ s. IsRollFront limit.most s (items ++ x ∷ [])) (same_value e)
      (all_ballots limit.most heading lines l x items front more.0 more.1, omega (arith, front.numbers.candidates.least))

  goes_on :
      (expected : Expected) (next : Progress Expected Poll) (x : Item) (items : List Item)
      → IsFront limit.most expected items
      → at_token limit expected x ≡ Ok next → IsRollFront limit.most next (items ++ x ∷ [])
  unfolding at_token
  goes_on Candidates next (Number n) items front e =
      let ok = passed (is_in 250 n) _ next _ e in
      subst (λ s. IsRollFront limit.most s (items ++ Number n ∷ [])) ok.1
      (in_range 250 n ok.0, ap (λ (l : List Item). l ++ Number n ∷ []) front)
  goes_on Candidates next x items front e = absurd (refused e)
  goes_on (Seats candidates) next (Number n) items front e =
      let ok = passed (is_in 250 n) _ next _ e in
      subst (λ s. IsRollFront limit.most s (items ++ Number n ∷ [])) ok.1 (record {
        numbers = record { candidates = front.0; seats = in_range 250 n ok.0; each_withdrawn = All-nil (IsIn candidates) };
        so_far = no_lines candidates limit.most;
        spelled = ap (λ (l : List Item). l ++ Number n ∷ []) front.1;
      })
  goes_on (Seats candidates) next x items front e = absurd (refused e)
  goes_on (Withdrawn heading) next (Minus n) items front e =
      let ok = passed (is_in heading.candidates n) _ next _ e in
      subst (λ s. IsRollFront limit.most s (items ++ Minus n ∷ [])) ok.1
      (one_withdrawn limit.most heading n items front (in_range heading.candidates n ok.0))
  goes_on (Withdrawn heading) next x items front e = ballots_go_on heading (Between []) x next items _ front refl e
  goes_on (Ballots heading lines) next x items front e = ballots_go_on heading lines x next items _ front.0 refl e
  goes_on (Name heading lines names) next (Text name) items front e =
      let ok = passed (nat_le (length name) MOST_NAME_BYTES) _ next _ e in
      subst (λ s. IsRollFront limit.most s (items ++ Text name ∷ [])) ok.1
      (named limit.most heading lines names name items front.0 front.1 (leb-true (length name) MOST_NAME_BYTES ok.0))
  goes_on (Name heading lines names) next x items front e = absurd (refused e)
  goes_on (Title heading lines names) next (Text title) items front e =
      let ok = passed (nat_le (length title) MOST_TITLE_BYTES) _ next _ e in
      subst (λ s. IsRollFront limit.most s (items ++ Text title ∷ [])) ok.1
      (titled limit.most heading lines names title items front.0 front.1 (leb-true (length title) MOST_TITLE_BYTES ok.0))
  goes_on (Title heading lines names) next x items front e = absurd (refused e)

  pub roll_goes_on :
      (expected next : Progress Expected Poll) (x : Item) (items : List Item) → IsRollFront limit.most expected items
      → at_roll_token limit expected x ≡ Ok next → IsRollFront limit.most next (items ++ x ∷ [])
  roll_goes_on (GoesOn expected) next x items front e = goes_on expected next x items front e
  roll_goes_on (Ends poll) next x items front e = absurd (refused e)

  -- a file up to its title is a whole file
  pub whole : (items : List Item) (poll : Poll) → IsUpToTitle limit.most items poll → IsBlt limit.most items poll
  whole items poll is = record { front = items; further = []; spelled = sym (append-nil items); up_to_title = is }

  as_file_front :
      (expected : Progress Expected Poll) (items : List Item) → IsRollFront limit.most expected items
      → IsFileFront limit.most expected items
  as_file_front (GoesOn expected) items front = front
  as_file_front (Ends poll) items front = whole items poll front

  one_string_more :
      (text : List ℕ) (items : List Item) (poll : Poll) → IsBlt limit.most items poll
      → IsBlt limit.most (items ++ Text text ∷ []) poll
  one_string_more text items poll is = record {
    front = is.front;
    further = is.further ++ text ∷ [];
    spelled =
        ap (λ (l : List Item). l ++ Text text ∷ []) is.spelled
        ∙ append_assoc is.front (map Text is.further) (Text text ∷ [])
        ∙ ap (λ (l : List Item). is.front ++ l) (sym (map-append Text is.further (text ∷ [])));
    up_to_title = is.up_to_title;
  }

  pub file_goes_on :
      (expected next : Progress Expected Poll) (x : Item) (items : List Item) → IsFileFront limit.most expected items
      → at_file_token limit expected x ≡ Ok next → IsFileFront limit.most next (items ++ x ∷ [])
  file_goes_on (GoesOn expected) next x items front e =
      as_file_front next (items ++ x ∷ []) (goes_on expected next x items front e)
  file_goes_on (Ends poll) next (Text text) items front e =
      subst (λ s. IsFileFront limit.most s (items ++ Text text ∷ [])) (same_value e) (one_string_more text items poll front)
  file_goes_on (Ends poll) next x items front e = absurd (refused e)

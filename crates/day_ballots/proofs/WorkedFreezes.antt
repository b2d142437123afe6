-- Freezes and false lines of a day of one team, worked by hand.
use Rattle.std.proofs.Common.{◌≡◌, ◌≢◌, ℕ, zero, suc, ◌+◌, ◌-◌, ◌==◌, ◌<◌, ◌≤◌, cond, Bool, true, false, List}
use Rattle.std.proofs.Common.{[], ◌∷◌, ◌++◌, length}
use Rattle.std.proofs.Common.{refl, sym, ap, ◌∙◌, subst, arith, codes, get_or}
use Rattle.std.specs.Prelude.{slice_get, Some, Option, unwrap_or}
use Rattle.std.specs.List.{flat_map}
use Rattle.std.specs.Fmt.{digits}
use Rattle.std.proofs.lemmas.Bool.{ne_eqb}
use Rattle.batch_core.specs.declared.reply.Reply.TheVariants.{Entered, Corrected}
use Rattle.batch_core.specs.declared.entry.Entry.{Entry}
use Rattle.batch_core.specs.Histories.{own_calls}
use Rattle.day_reader.specs.declared.script.Script.{Script}
use Rattle.day_reader.specs.Call.{is_freeze}
use Rattle.day_lines.specs.DayHistory.{calls_of, calls_in, clerk_freeze, IsHistoryOf}
use Rattle.day_lines.specs.EntryText.{entry_line}
use Rattle.sheet_text.specs.Lines.{ended}
use Rattle.sheet_check.specs.Difference.{line_at}
use Rattle.day_replay.specs.Nearest.{BeginsAs}
use Rattle.day_replay.specs.Worked.{made_by, enter, correct, entered_line}
use Rattle.day_ballots.specs.Along.{GoesAlong, IsFreezeAt, IsAtFreeze, IsFalseCall}
use Rattle.day_ballots.specs.Worked.{WorkedFreezes, WorkedFalseLines, one_team, its_history, its_text, corrected_line}
use Rattle.day_ballots.proofs.OneTeam.{only_history}

-- ---- the history

none_made : (k : ℕ) → calls_of (own_calls (suc (suc k)) its_history) ≡ calls_in one_team.scripts (suc (suc k))
none_made k =
    ap calls_of
    ((λ i. cond (one i)
    (e ∷ cond (one i) (f ∷ cond (nought i) (clerk_freeze ∷ []) []) (cond (nought i) (clerk_freeze ∷ []) []))
    (cond (one i) (f ∷ cond (nought i) (clerk_freeze ∷ []) []) (cond (nought i) (clerk_freeze ∷ []) []))))
    ∙ sym (ap (λ (b : Bool). flat_map (λ (s : Script). s.calls) (cond b one_team.scripts [])) one)
  where
    e : Entry
    e = made_by 1 enter Entered

    f : Entry
    f = made_by 1 correct (Corrected 2)

    one : (1 == suc (suc k)) ≡ false
    one = ne_eqb 1 (suc (suc k)) (λ is. absurd (omega (arith, is)))

    nought : (0 == suc (suc k)) ≡ false
    nought = ne_eqb 0 (suc (suc k)) (λ is. absurd (omega (arith, is)))

whole : (team : ℕ) → 1 ≤ team → calls_of (own_calls team its_history) ≡ calls_in one_team.scripts team
whole zero some = absurd (omega (arith, some))
whole (suc zero) some = refl
whole (suc (suc k)) some = none_made k

is_it : IsHistoryOf one_team.scripts its_history
is_it = record {
  legal = (refl, (refl, (refl, tt)));
  ends = record { before = made_by 1 enter Entered ∷ made_by 1 correct (Corrected 2) ∷ []; last = refl; no_other = refl };
  whole = whole;
}

only : (history : List Entry) → IsHistoryOf one_team.scripts history → history ≡ its_history
only history is = only_history enter correct history is

-- ---- along the lines of a text

got : (e x : Entry) → Some x ≡ Some e → x ≡ e
got e x at = ap (λ (o : Option Entry). unwrap_or o x) at

abbrev stands : (text : List ℕ) → (k : ℕ) → (x : Entry) → Type 0
stands text k x = line_at k text ≡ ended (entry_line (k + 1) x)

-- a text with its first line, or its first two lines, or all of them
along_0 : (text : List ℕ) → BeginsAs 0 text its_history
along_0 text k e below at = absurd (omega (arith, below))

module _ (text : List ℕ) (first : line_at 0 text ≡ entered_line) where
  along_1 : BeginsAs 1 text its_history
  unfolding digits
  along_1 zero e below at = subst (stands text 0) (got e (made_by 1 enter Entered) at) first
  along_1 (suc k) e below at = absurd (omega (arith, below))

  module _ (second : line_at 1 text ≡ corrected_line) where
    along_2 : BeginsAs 2 text its_history
    unfolding digits
    along_2 zero e below at = subst (stands text 0) (got e (made_by 1 enter Entered) at) first
    along_2 (suc zero) e below at = subst (stands text 1) (got e (made_by 1 correct (Corrected 2)) at) second
    along_2 (suc (suc k)) e below at = absurd (omega (arith, below))

    along_all : line_at 2 text ≡ codes "3 clerk freeze frozen\n" → (n : ℕ) → BeginsAs n text its_history
    unfolding digits
    along_all third n zero e below at = subst (stands text 0) (got e (made_by 1 enter Entered) at) first
    along_all third n (suc zero) e below at = subst (stands text 1) (got e (made_by 1 correct (Corrected 2)) at) second
    along_all third n (suc (suc zero)) e below at = subst (stands text 2) (got e clerk_freeze at) third
    along_all third n (suc (suc (suc k))) e below at = absurd (cc)

goes : (text : List ℕ) (n : ℕ) → BeginsAs n text its_history → GoesAlong one_team text n its_history
goes text n lines = record { calls = is_it; lines = lines }

-- its lines are those of any history that goes along
same_lines :
    (text : List ℕ) (n : ℕ) (history : List Entry) → GoesAlong one_team text n history → BeginsAs n text its_history
same_lines text n history along = subst (BeginsAs n text) (only history along.calls) along.lines

-- ---- false lines

-- line n is the first false one, where the history has the lines before it and not this one
false_call :
    (text : List ℕ) (before : ℕ) → before < 3 → BeginsAs before text its_history → ¬ BeginsAs (before + 1) text its_history
    → IsFalseCall one_team text (before + 1)
false_call text before few so_far differs = record {
  before = before;
  number = refl;
  so_far = (its_history, goes text before so_far, few);
  no_longer = λ history along within. differs (same_lines text (before + 1) history along);
}

-- and no other line is
no_false_call : (text : List ℕ) (n : ℕ) → n ≤ 3 → BeginsAs n text its_history → ¬ IsFalseCall one_team text n
no_false_call text n within lines is = is.no_longer its_history (goes text n lines) within

other_line :
    (text : List ℕ) (k at : ℕ) (x : Entry) → slice_get its_history k ≡ Some x
    → get_or (line_at k text) at 0 ≢ get_or (ended (entry_line (k + 1) x)) at 0 → ¬ BeginsAs (k + 1) text its_history
other_line text k at x there differs begins =
    differs (ap (λ (l : List ℕ). get_or l at 0) (begins k x (omega arith) there))

pub worked_false_lines : WorkedFalseLines
unfolding digits
worked_false_lines = record {
  out_of_order =
      false_call (codes "1 team 1 correct 7 1 unknown\n2 team 1 enter 7 entered\n") 0 (omega arith)
      (along_0 (codes "1 team 1 correct 7 1 unknown\n2 team 1 enter 7 entered\n"))
      (other_line (codes "1 team 1 correct 7 1 unknown\n2 team 1 enter 7 entered\n") 0 9 (made_by 1 enter Entered) refl
      (λ e. absurd (omega (arith, e))));
  twice =
      false_call (entered_line ++ codes "2 team 1 enter 7 exists 1\n") 1 (omega arith)
      (along_1 (entered_line ++ codes "2 team 1 enter 7 exists 1\n") refl)
      (other_line (entered_line ++ codes "2 team 1 enter 7 exists 1\n") 1 9 (made_by 1 correct (Corrected 2)) refl
      (λ e. absurd (omega (arith, e))));
  missing =
      false_call (entered_line ++ codes "2 clerk freeze frozen\n") 1 (omega arith)
      (along_1 (entered_line ++ codes "2 clerk freeze frozen\n") refl) no_second;
  other_revision =
      false_call (entered_line ++ codes "2 team 1 correct 7 1 corrected 3\n") 1 (omega arith)
      (along_1 (entered_line ++ codes "2 team 1 correct 7 1 corrected 3\n") refl)
      (other_line (entered_line ++ codes "2 team 1 correct 7 1 corrected 3\n") 1 31 (made_by 1 correct (Corrected 2)) refl
      (λ e. absurd (omega (arith, e))));
  no_clerk =
      false_call (entered_line ++ (corrected_line ++ codes "sheet 3\n")) 2 (omega arith)
      (along_2 (entered_line ++ (corrected_line ++ codes "sheet 3\n")) refl refl)
      (other_line (entered_line ++ (corrected_line ++ codes "sheet 3\n")) 2 0 clerk_freeze refl
      (λ e. absurd (omega (arith, e))));
  ends_early =
      false_call entered_line 1 (omega arith) (along_1 entered_line refl)
      (other_line entered_line 1 0 (made_by 1 correct (Corrected 2)) refl (λ e. absurd (omega (arith, e))));
  not_before =
      no_false_call (entered_line ++ codes "2 clerk freeze frozen\n") 1 (omega arith)
      (along_1 (entered_line ++ codes "2 clerk freeze frozen\n") refl);
  not_behind = λ is.
      no_second_behind
      (λ k e below at. same_lines (entered_line ++ codes "2 clerk freeze frozen\n3 clerk freeze frozen\n")
      is.before is.so_far.0 is.so_far.1 k e
      (omega (arith, below, is.number)) at);
  behind_all = λ is. absurd (omega (arith, is.number, is.so_far.2, ap length (only is.so_far.0 is.so_far.1.calls)));
}
  where
    no_second : ¬ BeginsAs 2 (entered_line ++ codes "2 clerk freeze frozen\n") its_history
    no_second =
        other_line (entered_line ++ codes "2 clerk freeze frozen\n") 1 2 (made_by 1 correct (Corrected 2)) refl
        (λ e. absurd (omega (arith, e)))

    no_second_behind : ¬ BeginsAs 2 (entered_line ++ codes "2 clerk freeze frozen\n3 clerk freeze frozen\n") its_history
    no_second_behind =
        other_line (entered_line ++ codes "2 clerk freeze frozen\n3 clerk freeze frozen\n") 1 2
        (made_by 1 correct (Corrected 2)) refl (λ e. absurd (omega (arith, e)))

-- ---- freezes

its_lines : (n : ℕ) → BeginsAs n its_text its_history
its_lines n = along_all its_text refl refl refl n

no_freeze_at :
    (n : ℕ) (x : Entry) → slice_get its_history (n - 1) ≡ Some x → is_freeze x.call ≡ false
    → ¬ IsFreezeAt its_history n
no_freeze_at n x there none is =
    let same : x ≡ is.entry = got is.entry x (sym there ∙ is.there) in
    let wrong : false ≡ true = sym none ∙ (ap (λ (e : Entry). is_freeze e.call) same ∙ is.freezes) in
    absurd (cc)

no_history_freezes :
    (n : ℕ) → ¬ IsFreezeAt its_history n → (history : List Entry) → ¬ IsAtFreeze one_team its_text n history
no_history_freezes n none history is =
    none (subst (λ (l : List Entry). IsFreezeAt l n) (only history is.along.calls) is.freeze)

not_second : ¬ IsFreezeAt its_history 2
not_second = no_freeze_at 2 (made_by 1 correct (Corrected 2)) refl refl

not_fourth : ¬ IsFreezeAt its_history 4
not_fourth is = let wrong = is.there in absurd (cc)

pub worked_freezes : WorkedFreezes
unfolding digits
worked_freezes = record {
  there = record {
    along = goes its_text 3 (its_lines 3);
    freeze = record { some = omega arith; entry = clerk_freeze; there = refl; freezes = refl };
  };
  before = not_second;
  behind = not_fourth;
  line_0 = λ is. absurd (omega (arith, is.some));
  so_far = goes (entered_line ++ codes "3\n") 1 (along_1 (entered_line ++ codes "3\n") refl);
  no_further = λ is.
      other_line (entered_line ++ codes "3\n") 1 0 (made_by 1 correct (Corrected 2)) refl
      (λ e. absurd (omega (arith, e))) is.lines;
  line_2 = record {
    none_false = λ k below. no_false_call its_text k (omega (arith, below)) (its_lines k);
    no_freeze = no_history_freezes 2 not_second;
  };
  line_4 = record {
    none_false = none_false;
    no_freeze = no_history_freezes 4 not_fourth;
  };
  not_line_3 = λ is.
      is.no_freeze its_history (record {
        along = goes its_text 3 (its_lines 3);
        freeze = record { some = omega arith; entry = clerk_freeze; there = refl; freezes = refl };
      });
  false_there = λ is. is.none_false 2 (omega arith) worked_false_lines.missing;
}
  where
    none_false : (k : ℕ) → k ≤ 4 → ¬ IsFalseCall one_team its_text k
    none_false k below is =
        let within = is.so_far.2 in
        let long = ap length (only is.so_far.0 is.so_far.1.calls) in
        no_false_call its_text k (omega (arith, is.number, within, long)) (its_lines k) is

-- Where a text ends, worked by hand.
use Rattle.std.proofs.Common.{◌≢◌, inr, ⊎_elim, ℕ, zero, suc, ◌+◌, ◌<◌, ◌≤◌, List, [], ◌∷◌, ◌++◌, take, drop}
use Rattle.std.proofs.Common.{refl, ap, arith, codes, get_or}
use Rattle.day_audit.specs.Input.{GoesOn, HasNoLastEnd, IsLastEnd}
use Rattle.day_audit.specs.Worked.{WorkedEnds, two_sheets}
use Rattle.day_audit.proofs.Splits.{last_fits}

-- another byte is in the line
no_end :
    (input : List ℕ) (at i : ℕ) → get_or (take 4 (drop at input)) i 0 ≢ get_or (codes "end\n") i 0
    → ¬ IsLastEnd input at
no_end input at i differs ends = differs (ap (λ (l : List ℕ). get_or l i 0) ends.stands.is_end)

no_sheet : (text : List ℕ) → get_or (take 6 text) 0 0 ≢ 115 → ¬ GoesOn text
no_sheet text differs is = differs (ap (λ (l : List ℕ). get_or l 0 0) is)

abbrev two : List ℕ
two = two_sheets ++ codes "2 1\n"

none_in_two : (k : ℕ) → k < 12 → ¬ IsLastEnd two k
none_in_two zero below = λ ends. ends.last refl
none_in_two (suc zero) below = no_end two 1 0 (λ e. absurd (omega (arith, e)))
none_in_two (suc (suc zero)) below = no_end two 2 0 (λ e. absurd (omega (arith, e)))
none_in_two (suc (suc (suc zero))) below = no_end two 3 0 (λ e. absurd (omega (arith, e)))
none_in_two (suc (suc (suc (suc zero)))) below = no_end two 4 0 (λ e. absurd (omega (arith, e)))
none_in_two (suc (suc (suc (suc (suc zero))))) below = no_end two 5 0 (λ e. absurd (omega (arith, e)))
none_in_two (suc (suc (suc (suc (suc (suc zero)))))) below = no_end two 6 1 (λ e. absurd (omega (arith, e)))
none_in_two (suc (suc (suc (suc (suc (suc (suc zero))))))) below = no_end two 7 1 (λ e. absurd (omega (arith, e)))
none_in_two (suc (suc (suc (suc (suc (suc (suc (suc zero)))))))) below = no_end two 8 0 (λ e. absurd (omega (arith, e)))
none_in_two (suc (suc (suc (suc (suc (suc (suc (suc (suc zero))))))))) below =
    no_end two 9 0 (λ e. absurd (omega (arith, e)))
none_in_two (suc (suc (suc (suc (suc (suc (suc (suc (suc (suc zero)))))))))) below =
    no_end two 10 0 (λ e. absurd (omega (arith, e)))
none_in_two (suc (suc (suc (suc (suc (suc (suc (suc (suc (suc (suc zero))))))))))) below =
    no_end two 11 0 (λ e. absurd (omega (arith, e)))
none_in_two (suc (suc (suc (suc (suc (suc (suc (suc (suc (suc (suc (suc k)))))))))))) below = absurd (omega (arith, below))

abbrev cut : List ℕ
cut = codes "end\nsheet 2\n"

none_in_cut : HasNoLastEnd cut
none_in_cut at ends = by at (last_fits cut at ends) ends
  where
    by : (k : ℕ) → k + 4 ≤ 12 → ¬ IsLastEnd cut k
    by zero within = λ ends. ends.last refl
    by (suc zero) within = no_end cut 1 0 (λ e. absurd (omega (arith, e)))
    by (suc (suc zero)) within = no_end cut 2 0 (λ e. absurd (omega (arith, e)))
    by (suc (suc (suc zero))) within = no_end cut 3 0 (λ e. absurd (omega (arith, e)))
    by (suc (suc (suc (suc zero)))) within = no_end cut 4 0 (λ e. absurd (omega (arith, e)))
    by (suc (suc (suc (suc (suc zero))))) within = no_end cut 5 0 (λ e. absurd (omega (arith, e)))
    by (suc (suc (suc (suc (suc (suc zero)))))) within = no_end cut 6 1 (λ e. absurd (omega (arith, e)))
    by (suc (suc (suc (suc (suc (suc (suc zero))))))) within = no_end cut 7 1 (λ e. absurd (omega (arith, e)))
    by (suc (suc (suc (suc (suc (suc (suc (suc zero)))))))) within = no_end cut 8 0 (λ e. absurd (omega (arith, e)))
    by (suc (suc (suc (suc (suc (suc (suc (suc (suc k))))))))) within = absurd (omega (arith, within))

none_in_a : (k : ℕ) → k < 2 → ¬ IsLastEnd (codes "a\nend\n") k
none_in_a zero below = no_end (codes "a\nend\n") 0 0 (λ e. absurd (omega (arith, e)))
none_in_a (suc zero) below = no_end (codes "a\nend\n") 1 0 (λ e. absurd (omega (arith, e)))
none_in_a (suc (suc k)) below = absurd (omega (arith, below))

abbrev within_a_line : List ℕ
within_a_line = codes "x end\nend\nend\n"

none_in_a_line : (k : ℕ) → k < 6 → ¬ IsLastEnd within_a_line k
none_in_a_line zero below = no_end within_a_line 0 0 (λ e. absurd (omega (arith, e)))
none_in_a_line (suc zero) below = no_end within_a_line 1 0 (λ e. absurd (omega (arith, e)))
none_in_a_line (suc (suc zero)) below =
    λ ends. ⊎_elim (λ e. absurd (omega (arith, e))) (λ e. absurd (omega (arith, e))) ends.stands.starts
none_in_a_line (suc (suc (suc zero))) below = no_end within_a_line 3 0 (λ e. absurd (omega (arith, e)))
none_in_a_line (suc (suc (suc (suc zero)))) below = no_end within_a_line 4 0 (λ e. absurd (omega (arith, e)))
none_in_a_line (suc (suc (suc (suc (suc zero))))) below = no_end within_a_line 5 0 (λ e. absurd (omega (arith, e)))
none_in_a_line (suc (suc (suc (suc (suc (suc k)))))) below = absurd (omega (arith, below))

abbrev behind_a_return : List ℕ
behind_a_return = codes "x" ++ 13 ∷ codes "end\n"

none_behind_a_return : HasNoLastEnd behind_a_return
none_behind_a_return at ends = by at (last_fits behind_a_return at ends) ends
  where
    by : (k : ℕ) → k + 4 ≤ 6 → ¬ IsLastEnd behind_a_return k
    by zero within = no_end behind_a_return 0 0 (λ e. absurd (omega (arith, e)))
    by (suc zero) within = no_end behind_a_return 1 0 (λ e. absurd (omega (arith, e)))
    by (suc (suc zero)) within =
        λ ends. ⊎_elim (λ e. absurd (omega (arith, e))) (λ e. absurd (omega (arith, e))) ends.stands.starts
    by (suc (suc (suc k))) within = absurd (omega (arith, within))

pub worked_ends : WorkedEnds
worked_ends = record {
  two = record {
    at = 12;
    ends = record {
      stands = record { starts = inr refl; is_end = refl };
      last = no_sheet (codes "2 1\n") (λ e. absurd (omega (arith, e)));
    };
    none_before = none_in_two;
    text_is = refl;
    file_is = refl;
  };
  nothing_behind = record {
    at = 2;
    ends =
        record {
          stands = record { starts = inr refl; is_end = refl };
          last = no_sheet [] (λ e. absurd (omega (arith, e)));
        };
    none_before = none_in_a;
    text_is = refl;
    file_is = refl;
  };
  in_a_line = record {
    at = 6;
    ends = record {
      stands = record { starts = inr refl; is_end = refl };
      last = no_sheet (codes "end\n") (λ e. absurd (omega (arith, e)));
    };
    none_before = none_in_a_line;
    text_is = refl;
    file_is = refl;
  };
  after_a_return = none_behind_a_return;
  goes_on = none_in_cut;
  no_line_feed = λ at ends. absurd (omega (arith, last_fits (codes "end") at ends));
  ended = record { no_end = none_in_cut; fault_is = refl };
}

-- What a way tells of the mark.
use Rattle.std.proofs.Common.{◌≡◌, ℕ, Bool, true, false, cond, List, Option, Some, None, refl, ap, nat_lt}
use Rattle.ballot_marks.specs.declared.mark.Mark.{Mark}
use Rattle.ballot_marks.specs.declared.says.Says.{Says}
use Rattle.ballot_marks.specs.declared.says.Says.TheVariants.{One, Over}
use Rattle.ballot_marks.specs.declared.choice.Treat.{Treat}
use Rattle.ballot_marks.specs.declared.choice.Treat.TheVariants as treat
use Rattle.ballot_marks.specs.declared.treatment.Treatment.{Treatment}
use Rattle.ballot_marks.specs.declared.why.Why.{Why}
use Rattle.ballot_marks.specs.declared.why.Why.TheVariants.{Repeated}
use Rattle.ballot_marks.specs.declared.way.Way.{Way}
use Rattle.ballot_marks.specs.declared.way.Way.TheVariants.{Ranked, Passed, Cut}
use Rattle.ballot_marks.specs.Marks.{is_among}
use Rattle.ballot_marks.specs.Ways.{chosen, said_way, skipped_way, way_behind, goes_on}
use Rattle.ballot_marks.specs.SoFar.{SaysNew}

cut_on : (cut : Bool) (other w : Way) → cond cut Cut other ≡ w → goes_on w ≡ true → other ≡ w
cut_on true other w is on = absurd (cc (ap goes_on is))
cut_on false other w is on = is

skipped_on :
    (some : Bool) (closed : Option ℕ) (skipped : ℕ) (other w : Way)
    → cond some (skipped_way closed skipped other) other ≡ w → goes_on w ≡ true → other ≡ w
skipped_on false closed skipped other w is on = is
skipped_on true None skipped other w is on = absurd (cc (ap goes_on is))
skipped_on true (Some most) skipped other w is on = cut_on (nat_lt most skipped) other w is on

-- where the ballot goes on, what is said has the way of the mark
pub said_way_on :
    (t : Treatment) (before : List ℕ) (m : Mark) (w : Way) → way_behind t before m ≡ w → goes_on w ≡ true
    → said_way t before m.says ≡ w
said_way_on t before m w is on =
    skipped_on (nat_lt 0 m.skipped) t.skipped m.skipped (said_way t before m.says) w is on

not_ranked : (treat : Treat) (why : Why) → chosen treat why ≡ Ranked → ⊥
not_ranked treat.Refuse why is = cc
not_ranked treat.Cut why is = cc
not_ranked treat.Pass why is = cc

new_one : (again : Bool) (treat : Treat) → cond again (chosen treat Repeated) Ranked ≡ Ranked → again ≡ false
new_one true treat is = absurd (not_ranked treat Repeated is)
new_one false treat is = refl

-- who is ranked was not said before
pub ranked_is_new :
    (t : Treatment) (before : List ℕ) (s : Says) → said_way t before s ≡ Ranked → SaysNew before s
ranked_is_new t before (One c) is = new_one (is_among before c) t.repeated is
ranked_is_new t before Over is = tt

said_again :
    (again : Bool) (treat : Treat) → cond again (chosen treat Repeated) Ranked ≡ Passed → again ≡ true
said_again true treat is = refl
said_again false treat is = absurd cc

-- who is passed was said before
pub passed_is_again :
    (t : Treatment) (before : List ℕ) (c : ℕ) → said_way t before (One c) ≡ Passed → is_among before c ≡ true
passed_is_again t before c is = said_again (is_among before c) t.repeated is

said_way-same :
    (t : Treatment) (a b : List ℕ) (s : Says) → ((c : ℕ) → is_among a c ≡ is_among b c)
    → said_way t a s ≡ said_way t b s
said_way-same t a b (One c) same =
    ap (λ (again : Bool). cond again (chosen t.repeated Repeated) Ranked) (same c)
said_way-same t a b Over same = refl

-- only who was said counts
pub way_behind-same :
    (t : Treatment) (a b : List ℕ) (m : Mark) → ((c : ℕ) → is_among a c ≡ is_among b c)
    → way_behind t a m ≡ way_behind t b m
way_behind-same t a b m same =
    ap (λ (other : Way). cond (nat_lt 0 m.skipped) (skipped_way t.skipped m.skipped other) other)
    (said_way-same t a b m.says same)

use Rattle.std.proofs.Common.{◌≡◌, ◌+◌, ◌++◌, ◌∷◌, [], length, take, sym, ap, ◌∙◌, subst, arith}
use Rattle.std.specs.Prelude.{slice_get, vec_len}
use Rattle.shard_office.specs.Meeting.{HaveJoined}
use Rattle.shard_office.proofs.MeetingLists.{joined_more}
use Rattle.shard_office.proofs.Places.{front_less}
use Rattle.shard_office.proofs.meeting.join_all.Goals as goal

pub join_at-requires-clause-may : goal.join_at-requires-clause-may
join_at-requires-clause-may c x ex =
    let was : c.loop-other.others.items ≡ c.pop.new.self.items ++ c.in-Some.other ∷ [] =
    c.in-Some.ensures.items in
    let less =
    front_less c.pop.new.self.items c.args.others.items c.in-Some.other (vec_len c.loop-other.others)
    (sym was ∙ c.loop-other.invariant.front) in
    let n : length c.pop.new.self.items ≡ c.len.result = omega (arith, c.len.ensures, c.pop.new.self.ok.0) in
    let rest =
    c.loop-other.invariant.joined.rest c.len.result
    (omega (arith, c.len.ensures, c.in-Some.ensures.cases)) in
    c.requires.may c.len.result x c.in-Some.other (sym rest ∙ ex)
    (ap (slice_get c.args.others.items) (sym n) ∙ less.1)

pub loop-other-preserved : goal.loop-other-preserved
loop-other-preserved c =
    let was : c.loop-other.others.items ≡ c.pop.new.self.items ++ c.in-Some.other ∷ [] =
    c.in-Some.ensures.items in
    let less =
    front_less c.pop.new.self.items c.args.others.items c.in-Some.other (vec_len c.loop-other.others)
    (sym was ∙ c.loop-other.invariant.front) in
    let n : length c.pop.new.self.items ≡ vec_len c.pop.new.self = omega (arith, c.pop.new.self.ok.0) in
    let m : vec_len c.loop-other.others ≡ vec_len c.pop.new.self + 1 = sym c.in-Some.ensures.cases in
    record {
      count = omega (arith, c.loop-other.invariant.count);
      len = c.join_at.ensures.len ∙ c.loop-other.invariant.len;
      front = less.0 ∙ ap (λ k. take k c.args.others.items) n;
      joined =
          joined_more (vec_len c.pop.new.self) c.args.firsts.now.items c.args.others.items
          c.loop-other.firsts.items c.join_at.new.firsts.items c.in-Some.other
          (subst (λ k. HaveJoined k c.args.firsts.now.items c.args.others.items c.loop-other.firsts.items) m
          c.loop-other.invariant.joined)
          (ap (slice_get c.args.others.items) (sym n) ∙ less.1)
          (omega (arith, c.join_at.ensures.len, c.loop-other.firsts.ok.0, c.join_at.new.firsts.ok.0))
          (λ x y ex ey. c.join_at.ensures.joined x y
          (ap (slice_get c.loop-other.firsts.items) c.len.ensures ∙ ex)
          (ap (slice_get c.join_at.new.firsts.items) c.len.ensures ∙ ey))
          (λ i ne. c.join_at.ensures.others i (λ e. ne (e ∙ c.len.ensures)));
    }

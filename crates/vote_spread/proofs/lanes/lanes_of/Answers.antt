use Rattle.std.proofs.Common.{◌≡◌, ◌∷◌, ◌++◌, [], ℕ, zero, suc, ◌+◌, ◌<◌, ◌≤◌, List, length, get_or, subst, sym, ◌∙◌, arith}
use Rattle.std.specs.List.{All}
use Rattle.std.proofs.lemmas.List.Elements.{All-push, All-nil}
use Rattle.vote_spread.specs.LaneSeen.{LaneSeen}
use Rattle.vote_spread.specs.Rows.{room_for}
use Rattle.shared_work.specs.Shares.{share}
use Rattle.vote_spread.proofs.lanes.lanes_of.Goals as goal

-- one lane more with as much room as its place needs
rooms_more :
    (lanes : List LaneSeen) (lane : LaneSeen) (need : ℕ → ℕ)
    → ((k : ℕ) (d : LaneSeen) → k < length lanes → need k ≤ (get_or lanes k d).room)
    → need (length lanes) ≤ lane.room
    → (k : ℕ) (d : LaneSeen) → k < length lanes + 1 → need k ≤ (get_or (lanes ++ lane ∷ []) k d).room
rooms_more [] lane need each last zero d lt = last
rooms_more [] lane need each last (suc k) d lt = absurd (omega arith)
rooms_more (x ∷ xs) lane need each last zero d lt = each zero d (omega arith)
rooms_more (x ∷ xs) lane need each last (suc k) d lt =
    rooms_more xs lane (λ j. need (suc j)) (λ j e h. each (suc j) e (omega arith)) last k d (omega arith)

pub loop-k-init : goal.loop-k-init
loop-k-init c = record {
  as_many = c.in_ok-lanes.ensures.len;
  capacity = c.in_ok-lanes.ensures.capacity;
  of_all =
      subst (All (λ (lane : LaneSeen). length lane.tally ≡ c.args.candidates)) (sym c.in_ok-lanes.ensures.items)
      (All-nil (λ (lane : LaneSeen). length lane.tally ≡ c.args.candidates));
  rooms = λ k d lt. absurd (omega (arith, lt));
}

pub new-requires : goal.new-requires
new-requires c = omega (arith, c.ranges.candidates)

pub push_reserved-requires : goal.push_reserved-requires
push_reserved-requires c = omega (arith, c.loop-k.invariant.as_many, c.loop-k.invariant.capacity, c.loop-k-test.true)

pub loop-k-preserved : goal.loop-k-preserved
loop-k-preserved c =
    let inv = c.loop-k.invariant in
    let stems = c.args.branches.now in
    let lanes = c.loop-k.lanes.items in
    let lane = c.in_ok-new.field-0 in
    let need : ℕ → ℕ =
    λ k. room_for stems (share (length stems) k c.args.workers)
    (share (length stems) (k + 1) c.args.workers) in
    let many : length lanes ≡ c.loop-k.k = omega (arith, c.loop-k.lanes.ok.0, inv.as_many) in
    let same : lane.room ≡ need c.loop-k.k = c.in_ok-new.ensures.room ∙ c.room_of-room.ensures in
    let enough : need c.loop-k.k ≤ lane.room = subst (λ (n : ℕ). need c.loop-k.k ≤ n) (sym {A = ℕ} same) (omega arith) in
    record {
      as_many = omega (arith, c.push_reserved.ensures.len, inv.as_many);
      capacity = omega (arith, c.push_reserved.ensures.capacity, inv.capacity);
      of_all =
          subst (All (λ (l : LaneSeen). length l.tally ≡ c.args.candidates)) (sym c.push_reserved.ensures.items)
          (All-push (λ (l : LaneSeen). length l.tally ≡ c.args.candidates) lanes lane inv.of_all c.in_ok-new.ensures.of_all);
      rooms = λ k d lt. subst (λ (l : List LaneSeen). need k ≤ (get_or l k d).room) (sym c.push_reserved.ensures.items)
          (rooms_more lanes lane need (λ j e h. inv.rooms j e (omega (arith, h, many)))
          (subst (λ n. need n ≤ lane.room) (sym many) enough) k d (omega (arith, lt, many)));
    }

pub returns-clause-as_many : goal.returns-clause-as_many
returns-clause-as_many c = omega (arith, c.loop-k.invariant.as_many, c.loop-k.auto, c.loop-k-test.false)

pub returns-clause-of_all : goal.returns-clause-of_all
returns-clause-of_all c = c.loop-k.invariant.of_all

pub returns-clause-fit : goal.returns-clause-fit
returns-clause-fit c = λ keeping stale. record {
  each = λ k d lt.
      let stems = c.args.branches.now in
      let from_first : k ≡ 0 + k = omega arith in
      record {
        room =
            subst (λ (n : ℕ). room_for stems (share (length stems) n c.args.workers)
            (share (length stems) (n + 1) c.args.workers) ≤ (get_or c.loop-k.lanes.items k d).room)
            from_first
            (c.loop-k.invariant.rooms k d (omega (arith, lt, c.loop-k.lanes.ok.0, c.loop-k.invariant.as_many)));
        rows = λ e. absurd (cc (stale, e));
      };
}

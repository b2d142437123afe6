use Rattle.std.proofs.Common.{◌≡◌, ℕ, ◌+◌, ◌-◌, ◌≤◌, List, [], ◌∷◌, length, drop, take, sum_by, arith, refl}
use Rattle.std.proofs.Common.{ap, sym, ◌∙◌, suc}
use Rattle.std.proofs.lemmas.List.{length-drop, length-take-le, take-map, drop-map, drop-take}
use Rattle.std.proofs.lemmas.List.Elements.{All-take, All-drop}
use Rattle.std.proofs.lemmas.List.Sums.{sum_by-cons}
use Rattle.vote_spread.specs.declared.branch.Branch.{Branch}
use Rattle.vote_spread.specs.Stem.{Stem, stem_of, stems_of}
use Rattle.vote_spread.specs.Walk.{HaveTails}
use Rattle.vote_spread.proofs.branches.Branches.room.Goals as goal

-- the tails of branches and of their stems
tails_of :
    (tails : List ℕ) (branches : List Branch) → HaveTails (length tails) branches
    → sum_by (λ (b : Branch). b.length + 1) branches
    ≡ sum_by (λ (stem : Stem). length stem.tail + 1) (stems_of tails branches)
tails_of tails [] have = refl
tails_of tails (b ∷ branches) have =
    let inside : b.tail + b.length ≤ length tails = have 0 b (omega arith) in
    let long : length (stem_of tails b).tail ≡ b.length =
    length-take-le b.length (drop b.tail tails) (omega (arith, length-drop b.tail tails)) in
    let rest = tails_of tails branches (λ k d lt. have (suc k) d (omega arith)) in
    omega (
      arith,
      sum_by-cons (λ (x : Branch). x.length + 1) b branches,
      sum_by-cons (λ (stem : Stem). length stem.tail + 1) (stem_of tails b) (stems_of tails branches),
    )

pub returns : goal.returns
returns c =
    let tails = c.self.inside.tails.items in
    let list = c.self.inside.list.items in
    let from = c.args.from in
    let to = c.args.to in
    let m = to - from in
    let f : Branch → ℕ = λ b. b.length + 1 in
    let g : Stem → ℕ = λ stem. length stem.tail + 1 in
    let part = take m (drop from list) in
    let have : HaveTails (length tails) part =
    All-take (λ (b : Branch). b.tail + b.length ≤ length tails) m (drop from list)
    (All-drop (λ (b : Branch). b.tail + b.length ≤ length tails) from list c.self.invariant.tails) in
    let value : c.tail_room.result ≡ sum_by f part =
    c.tail_room.ensures.value
    ∙ ap (λ (l : List Branch). sum_by f (take m (drop from l))) c.deref.ensures.value in
    let up_to : from + m ≡ to = omega (arith, c.requires.0) in
    let cut : stems_of tails part ≡ drop from (take to (stems_of tails list)) =
    sym (take-map (stem_of tails) m (drop from list))
    ∙ (ap (take m) (sym (drop-map (stem_of tails) from list))
    ∙ (sym (drop-take from m (stems_of tails list)) ∙ ap (λ n. drop from (take n (stems_of tails list))) up_to)) in
    let same : sum_by g (drop from (take to (stems_of tails list))) ≡ sum_by g (drop from (take to c.args.self.now)) =
    ap (λ (l : List Stem). sum_by g (drop from (take to l))) c.self.view_is in
    omega (arith, tails_of tails part have, ap (sum_by g) cut)

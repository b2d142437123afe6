use Rattle.std.proofs.Common.{◌≡◌, ℕ, ◌+◌, List, length, vec_len, map, rules, replicate, false, ◌==◌, sym, ◌∙◌, ap, subst}
use Rattle.std.proofs.lemmas.List.{length-map}
use Rattle.blt_reader.specs.declared.named.Named.TheInside.{Inside}
use Rattle.blt_reader.proofs.Stamps.{none_marked, none_marked_first}
use Rattle.blt_reader.proofs.named.Named.clear.Goals as goal
use Rattle.blt_reader.proofs.named.Named.clear.Goals.{then-self, else-self}

pub returns : goal.returns
returns c =
    let numbers = length c.args.self.now in
    let same : length c.self.inside.stamps.items ≡ numbers =
    sym (length-map c.self.inside.stamps.items (λ s. s == c.self.inside.round)) ∙ ap length c.self.view_is in
    let counts : vec_len c.self.inside.stamps ≡ length c.self.inside.stamps.items = search rules in
    let Cleared : Inside → Type 0 = λ i. map (λ s. s == i.round + 1) i.stamps.items ≡ replicate numbers false in
    elim c.if-self.branch [
      | then-self w ↦ subst Cleared (sym w.self-inside-is)
          (ap (λ (l : List ℕ). map (λ s. s == 1) l) (w.fill.ensures.items (λ y e. e))
          ∙ none_marked_first (vec_len c.self.inside.stamps) 0 ∙ ap (λ (n : ℕ). replicate n false) (counts ∙ same))
      | else-self w ↦ subst Cleared (sym w.self-inside-is)
          (none_marked c.self.inside.stamps.items c.self.inside.round c.self.invariant
          ∙ ap (λ (n : ℕ). replicate n false) same)
    ]

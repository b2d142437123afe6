use Rattle.std.proofs.Common.{◌≡◌, ℕ, ◌+◌, ◌-◌, ◌<◌, ◌≤◌, List, [], ◌++◌, length, min, take, drop, sym, ◌∙◌}
use Rattle.std.proofs.Common.{ap, arith, length-drop, take-append-drop}
use Rattle.std.proofs.lemmas.List.{take_rest, drop-drop, take_at, drop_all, length-take-le}
use Rattle.byte_edge.proofs.calm_source.CalmSourceSource.read.Goals as goal

-- what was copied, and what is left after it
moved :
    (xs copied old : List ℕ) (at n : ℕ) → copied ≡ take n (drop at xs) → n ≤ length (drop at xs)
    → drop at xs ≡ take n (copied ++ drop n old) ++ drop (at + n) xs
moved xs copied old at n same within =
    let long : length copied ≡ n = ap length same ∙ length-take-le n (drop at xs) within in
    rw (take_at copied (drop n old) n long, same, ← drop-drop n at xs) (sym (take-append-drop n (drop at xs)))

at_end : (xs : List ℕ) (at n room : ℕ) → n ≡ min (length (drop at xs)) room → n ≡ 0 → 0 < room → drop (at + n) xs ≡ []
at_end xs at n room is none some = drop_all (at + n) xs (grind (arith, length-drop))

pub returns-clause-bytes : goal.returns-clause-bytes
returns-clause-bytes c =
    let at = c.self.inside.at in
    let xs = c.self.inside.bytes.items in
    let left : take (length c.deref.result.now - at) (drop at c.deref.result.now) ≡ drop at xs =
    take_rest c.deref.result.now at ∙ ap (λ (l : List ℕ). drop at l) c.deref.ensures.value in
    let n_is : c.min-n.result ≡ min (length (drop at xs)) (length c.args.buf.now) =
    c.min-n.ensures ∙ ap (λ (l : List ℕ). min (length l) (length c.args.buf.now)) left in (
      sym c.self.view_is
          ∙ moved xs c.copy_from_slice.new.self c.args.buf.now at c.min-n.result
          (c.copy_from_slice.ensures.after ∙ ap (λ (l : List ℕ). take c.min-n.result l) left)
          (omega (arith, n_is)),
      λ none room. at_end xs at c.min-n.result (length c.args.buf.now) n_is none c.requires,
    )

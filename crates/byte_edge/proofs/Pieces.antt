-- What a loop that reads or writes piece by piece has done so far.
use Rattle.std.proofs.Common.{◌≡◌, ℕ, List, [], ◌++◌, take, drop, refl, sym, ◌∙◌, ap, append_assoc, take-append-drop}
use Rattle.std.specs.Prelude.{Option, Result, Ok, Err, OnErr}
use Rattle.std.specs.Io.KnownBytes.{Appends, Consumes, Keeps}
use Rattle.std.proofs.KnownBytes.{Appends-nil, Appends-trans, Appends-kept, Consumes-trans}
use Rattle.byte_edge.specs.Bytes.{AppendsFront, LosesFront}

-- a front of all the bytes was appended, and the rest is still to be written
pub record IsWrittenUpTo (old new : Option (List ℕ)) (all rest : List ℕ) : Type 0 where
  pub front : List ℕ
  pub split : all ≡ front ++ rest
  pub appended : Appends old new front

pub next_piece :
    (old mid new : Option (List ℕ)) (all rest : List ℕ) (n : ℕ) → IsWrittenUpTo old mid all rest
    → Appends mid new (take n rest) → IsWrittenUpTo old new all (drop n rest)
next_piece old mid new all rest n so_far piece = record {
  front = so_far.front ++ take n rest;
  split =
      so_far.split ∙ ap (λ (r : List ℕ). so_far.front ++ r) (sym (take-append-drop n rest))
      ∙ sym (append_assoc so_far.front (take n rest) (drop n rest));
  appended = Appends-trans old mid new so_far.front (take n rest) so_far.appended piece;
}

pub ends_there :
    (old mid new : Option (List ℕ)) (all rest : List ℕ) → IsWrittenUpTo old mid all rest → Keeps mid new
    → AppendsFront old new all
ends_there old mid new all rest so_far same =
    (so_far.front, rest, so_far.split, Appends-kept old mid new so_far.front so_far.appended same)

-- what was read before and the last piece are given up
pub given_up :
    {T E : Type 0} (result : Result T E) (old mid new : Option (List ℕ)) (front piece : List ℕ)
    → Consumes old mid front → Consumes mid new piece → OnErr result (LosesFront old new)
given_up (Ok value) old mid new front piece before last = tt
given_up (Err stop) old mid new front piece before last =
    (front ++ piece, Consumes-trans old mid new front piece before last)

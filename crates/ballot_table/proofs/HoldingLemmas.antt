-- What ranks say, by those who have them.
use Rattle.std.proofs.Common.{◌≡◌, ℕ, ◌+◌, ◌<◌, List, [], ◌∷◌, map, length, Option, get_or, refl, ap, sym, ◌∙◌, arith}
use Rattle.std.specs.List.{range_with_len}
use Rattle.std.proofs.lemmas.List.{same_lists, length-map, get_or-map}
use Rattle.std.proofs.lemmas.List.FromFn.{length-map-range_with_len, get_or-map-range_with_len}
use Rattle.plain_ballots.specs.declared.limits.TheConstants.{MOST_CANDIDATES}
use Rattle.ballot_marks.specs.declared.says.Says.{Says}
use Rattle.ballot_table.specs.declared.held.Held.{Held}
use Rattle.ballot_table.specs.declared.held.Held.TheVariants.{Nobody}
use Rattle.ballot_table.specs.Held.{HolderList, IsHolding, held_by, says_held}
use Rattle.ballot_table.specs.Rows.{holders, said_by_holders, said_up_to}

-- what the holders of a rank say
says_is : (cs : List ℕ) → says_held (held_by cs) ≡ said_by_holders cs
says_is [] = refl
says_is (c ∷ []) = refl
says_is (c ∷ d ∷ cs) = refl

module _ (most : ℕ) (ranks : List (Option ℕ)) (held : List Held) (size : length held ≡ most)
    (each : (k : ℕ) → k < most → get_or held k Nobody ≡ held_by (holders (k + 1) ranks))
  where
    said : ℕ → Option Says
    said rank = said_by_holders (holders rank ranks)

    said_each : (k : ℕ) (d : Option Says) → k < length (map says_held held)
        → get_or (map says_held held) k d
        ≡ get_or (map (λ rank. said_by_holders (holders rank ranks)) (range_with_len 1 most)) k d
    said_each k d inside =
        let long = length-map held says_held in
        let within : k < most = omega (arith, long) in
        get_or-map says_held held k Nobody d (omega arith)
        ∙ ap says_held (each k within)
        ∙ says_is (holders (k + 1) ranks)
        ∙ sym (get_or-map-range_with_len (λ rank. said_by_holders (holders rank ranks)) 1 most k (k + 1) d
        within (omega arith))

    said_by_all : map says_held held ≡ said_up_to most ranks
    unfolding said_up_to
    said_by_all =
        same_lists (map says_held held) (map (λ rank. said_by_holders (holders rank ranks)) (range_with_len 1 most))
        (length-map held says_held ∙ size
        ∙ sym (length-map-range_with_len (λ rank. said_by_holders (holders rank ranks)) 1 most))
        said_each

pub holding_said : (ranks : List (Option ℕ)) (h : HolderList) → IsHolding ranks h
    → map says_held h.held ≡ said_up_to MOST_CANDIDATES ranks
holding_said ranks h is = said_by_all MOST_CANDIDATES ranks h.held is.size is.each

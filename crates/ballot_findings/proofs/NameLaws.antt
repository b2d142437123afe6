-- Which names want no look.
use Rattle.std.proofs.Common.{◌≡◌, ◌≢◌, ℕ, Bool, true, false, List, ◌++◌}
use Rattle.std.proofs.Common.{refl, sym, length}
use Rattle.std.specs.Prelude.{◌&&◌, not, codes}
use Rattle.std.specs.Str.{bytes_eq}
use Rattle.std.proofs.lemmas.Bool.{both_ways, false_from_ne_true}
use Rattle.std.proofs.lemmas.Slice.Eq.{bytes_eq-Decides}
use Rattle.ballot_findings.specs.Names.{have_like_names, have_one_name, name_of, plainly}
use Rattle.ballot_findings.specs.Laws.{LikeNamesAreTold, OddNamesAreTold, OddTitlesAreTold, OneNameIsTold}
use Rattle.ballot_findings.specs.Oddities.{is_odd, oddity_words}
use Rattle.ballot_findings.proofs.OddLaws.{free}
use Rattle.ballot_findings.proofs.Told.{candidates_told, not_written, pairs_told, unwritten}

unequal : (a b : List ℕ) → bytes_eq a b ≡ false → a ≢ b
unequal a b fails same = both_ways (bytes_eq a b) fails ((bytes_eq-Decides a b).1 same)

unequal_test : (a b : List ℕ) → a ≢ b → bytes_eq a b ≡ false
unequal_test a b apart = false_from_ne_true (bytes_eq a b) (λ is. apart ((bytes_eq-Decides a b).0 is))

pub one_name : OneNameIsTold
one_name input roll =
    let told = pairs_told input 108 (codes "ook same name") (length roll.names) (have_one_name roll.names) in (
      λ none c d of other less.
          unequal (name_of roll.names c) (name_of roll.names d) (told.0 none c d of other less),
      λ apart.
          told.1 (λ c d of other less.
          unequal_test (name_of roll.names c) (name_of roll.names d) (apart c d of other less)),
    )

-- names that are not alike by the test are the same where they are alike
same_then : (one like : Bool) → (not one && like) ≡ false → like ≡ true → one ≡ true
same_then true like fails is = refl
same_then false like fails is = absurd (both_ways like fails is)

no_likeness : (one like : Bool) → (like ≡ true → one ≡ true) → (not one && like) ≡ false
no_likeness true like same = refl
no_likeness false true same = sym (same refl)
no_likeness false false same = refl

pub like_names : LikeNamesAreTold
like_names input roll =
    let told = pairs_told input 108 (codes "ook similar name") (length roll.names) (have_like_names roll.names) in
    let name : ℕ → List ℕ = name_of roll.names in (
      λ none c d of other less alike.
          (bytes_eq-Decides (name c) (name d)).0
          (same_then (bytes_eq (name c) (name d)) (bytes_eq (plainly (name c)) (plainly (name d)))
          (told.0 none c d of other less)
          ((bytes_eq-Decides (plainly (name c)) (plainly (name d))).1 alike)),
      λ same.
          told.1 (λ c d of other less.
          no_likeness (bytes_eq (name c) (name d)) (bytes_eq (plainly (name c)) (plainly (name d)))
          (λ is.
          (bytes_eq-Decides (name c) (name d)).1
          (same c d of other less ((bytes_eq-Decides (plainly (name c)) (plainly (name d))).0 is)))),
    )

pub odd_names : OddNamesAreTold
odd_names input roll oddity =
    let name : ℕ → List ℕ = name_of roll.names in
    let told =
    candidates_told input 108 (codes "ook name" ++ oddity_words oddity) (length roll.names) (λ c. is_odd oddity (name c)) in (
      λ none c of. (free oddity (name c)).0 (told.0 none c of),
      λ all. told.1 (λ c of. (free oddity (name c)).1 (all c of)),
    )

pub odd_titles : OddTitlesAreTold
odd_titles input roll oddity = (
  λ none. (free oddity roll.title).0 (not_written (is_odd oddity roll.title) 108 _ none),
  λ is. unwritten (is_odd oddity roll.title) _ ((free oddity roll.title).1 is),
)

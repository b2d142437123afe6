-- What a text comes to that has no fault.
use Rattle.std.specs.Prelude.{◌≡◌, ℕ, ◌≤◌, List, length, All, Some}
use Rattle.plain_ballots.specs.Ballots.{plain}
use Rattle.preflib_text.specs.declared.imported.Imported.{Imported}
use Rattle.preflib_text.specs.Asked.{Asked}
use Rattle.preflib_text.specs.Ballots.{ballots, entries, orders}
use Rattle.preflib_text.specs.Head.{names, title}
use Rattle.preflib_text.specs.Tallies.{tally}

-- The text says these names, this title and these ballots, with their tally; and the withdrawn are its candidates.
pub record IsImported (asked : Asked) (bytes : List ℕ) (imported : Imported) : Type 0 where
  pub names_are : imported.names ≡ names (entries bytes)
  pub title_is : imported.title ≡ title asked (entries bytes)
  pub candidates : imported.ballots.candidates ≡ length imported.names
  pub ballots_are : ballots asked.equal (orders bytes) ≡ Some (plain imported.ballots.lines)
  pub tally_is : imported.tally ≡ tally asked.equal (orders bytes)
  pub withdrawn : All (λ c. (1 ≤ c) × (c ≤ length imported.names)) asked.withdrawn

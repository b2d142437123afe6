-- What a caller has seen of an office.
use Rattle.std.specs.Prelude.{◌≡◌, ◌≢◌, ℕ, zero, suc, List, [], ◌∷◌, ◌++◌, length, map, slice_index_or}
use Rattle.turn_lock.specs.Entries.{Begins}
use Rattle.batch_core.specs.declared.entry.Entry.{Entry}
use Rattle.batch_core.specs.declared.reply.Reply.{Reply}
use Rattle.batch_core.specs.Book.{strike_reply}
use Rattle.batch_core.specs.Histories.{IsLegal}
use Rattle.call_register.specs.declared.mark.Mark.{Mark}
use Rattle.call_register.specs.declared.mark.Mark.TheVariants.{Shard, Strike}
use Rattle.call_register.specs.Marks.{marks_of, struck_by}
use Rattle.call_register.specs.Weaving.{Lists, weave}
use Rattle.call_register.specs.Walk.{calls_seen}

-- marks, and a list of entries for each shard, that of shard s at index s - 1
pub record Sight : Type 0 where
  pub marks : List Mark
  pub lists : List (List Entry)

-- the lists of the shards from 1 on; no other number has entries
abbrev pub by_shard : List (List Entry) → Lists
by_shard lists zero = []
by_shard lists (suc i) = slice_index_or lists i []

-- what was seen of this shard
abbrev pub entries_of : Sight → ℕ → List Entry
entries_of sight s = by_shard sight.lists s

-- what was seen, as one history: a mark whose entry was not seen is passed over
abbrev pub history_of : Sight → List Entry
history_of sight = weave sight.marks (by_shard sight.lists)

-- the calls of this caller in what was seen, with their replies
abbrev pub calls_in : ℕ → Sight → List Entry
calls_in caller sight = calls_seen caller sight.marks (by_shard sight.lists)

-- what was seen before begins what is seen now
pub record GoesOn (before now : Sight) : Type 0 where
  pub marks : Begins before.marks now.marks
  pub entries : (s : ℕ) → Begins (entries_of before s) (entries_of now s)
  pub shards : length now.lists ≡ length before.lists

-- nothing was seen of as many shards
abbrev pub nothing_of : Sight → Sight
nothing_of sight = record { marks = []; lists = map (λ l. []) sight.lists }

-- a sight is whole where it has as many marks of each shard as entries of it
abbrev pub IsWhole : Sight → Type 0
IsWhole sight = (s : ℕ) → marks_of s sight.marks ≡ length (entries_of sight s)

-- An answered change at shard s: of the marks seen now its mark is the last, and of the shard's entries its entry. The
-- shard's entries are legal by themselves, one for each of the shard's marks, and what was seen of every other shard is as
-- before.
pub record IsChange (s : ℕ) (e : Entry) (before now : Sight) : Type 0 where
  pub marks : (between : List Mark) × (now.marks ≡ (before.marks ++ between) ++ Shard s ∷ [])
  pub entries : (between : List Entry) × (entries_of now s ≡ (entries_of before s ++ between) ++ e ∷ [])
  pub legal : IsLegal (entries_of now s)
  pub whole : marks_of s now.marks ≡ length (entries_of now s)
  pub others : (t : ℕ) → t ≢ s → entries_of now t ≡ entries_of before t

-- one entry more of shard s, and one mark more, of this shard
pub record AddsEntry (s : ℕ) (e : Entry) (before now : Sight) : Type 0 where
  pub marks : now.marks ≡ before.marks ++ Shard s ∷ []
  pub entries : entries_of now s ≡ entries_of before s ++ e ∷ []
  pub others : (t : ℕ) → t ≢ s → entries_of now t ≡ entries_of before t

-- one mark more, and no entry
abbrev pub AddsMark : Mark → Sight → Sight → Type 0
AddsMark mark before now = now ≡ record before { marks = before.marks ++ mark ∷ [] }

-- An answered strike: of the marks seen now its mark is the last, and the reply says whether an earlier one of them strikes
-- the candidate. What was seen of the shards is as before.
pub record IsStrike (caller candidate : ℕ) (answer : Reply) (before now : Sight) : Type 0 where
  pub marks : (between : List Mark) × (now.marks ≡ (before.marks ++ between) ++ Strike caller candidate ∷ [])
      × (answer ≡ strike_reply (struck_by (before.marks ++ between)) candidate)
  pub entries : now.lists ≡ before.lists

-- What the tool owes, and how it ends.
use Rattle.std.proofs.Common.{◌≡◌, ◌∙◌, refl, sym, ap, subst, ℕ, ◌≤◌, List, [], get_or, arith, inl, inr}
use Rattle.std.specs.Prelude.{All, Option, Err}
use Rattle.std.proofs.KnownBytes.{Keeps-refl}
use Rattle.std.proofs.lemmas.List.Elements.{All-from_get_or}
use Rattle.lot_order.specs.Lots.{IsOrder}
use Rattle.meek_words.specs.Numerals.{Word, number_of}
use Rattle.meek_words.specs.declared.words_stop.WordsStop.{WordsStop}
use Rattle.meek_words.specs.declared.words_stop.WordsStop.TheVariants.{BadWords as BadWordsStop, NoMemory as NoWordsRead}
use Rattle.input_text.specs.declared.input_fault.InputFault.{InputFault}
use Rattle.tool_edge.specs.declared.end.End.{End}
use Rattle.tool_edge.specs.Streams.{Writing, NothingRead, NothingWritten, no_source, writing}
use Rattle.tool_edge.specs.Finishing.{FinishesOwed, RefusesWords}
use Rattle.tool_edge.specs.Words.{IsAsked}
use Rattle.tool_edge.specs.Tool.{IsOwedFor, IsRun, IsSound, no_history}
use Rattle.tool_edge.proofs.Running.{refused_words, worked, works_alone}
use Rattle.lot_draw.specs.Words.{Asked, Says, TakesDraw}
use Rattle.lot_draw.specs.Owed.{draws}

-- ---- what words ask for

same_asked : (one other : Asked) → one.seed ≡ other.seed → one.candidates ≡ other.candidates → one ≡ other
same_asked one other seeds counts = λ i. let a : Asked = record { seed = seeds i; candidates = counts i } in a

-- the values of the options are in the words
same_values :
    (one other : Asked) (number again : Word) → one.seed ≡ other.seed → number ≡ again → Says one.seed number one.candidates
    → Says other.seed again other.candidates → one ≡ other
same_values one other number again seeds numbers says repeats =
    same_asked one other seeds (says.value ∙ (ap number_of numbers ∙ sym repeats.value))

one_draw : (words : List Word) (one other : Asked) → TakesDraw words one → TakesDraw words other → one ≡ other
one_draw words one other takes again =
    elim takes.options [
      | inl first ↦ elim again.options [
        | inl same ↦
            let is = sym first ∙ same in
            same_values one other takes.number again.number (ap (λ (ws : List Word). get_or ws 1 []) is)
            (ap (λ (ws : List Word). get_or ws 3 []) is) takes.says again.says
        | inr swapped ↦ absurd (omega (arith, ap (λ (ws : List Word). get_or (get_or ws 0 []) 2 0) (sym first ∙ swapped)))
      ]
      | inr first ↦ elim again.options [
        | inl swapped ↦ absurd (omega (arith, ap (λ (ws : List Word). get_or (get_or ws 0 []) 2 0) (sym first ∙ swapped)))
        | inr same ↦
            let is = sym first ∙ same in
            same_values one other takes.number again.number (ap (λ (ws : List Word). get_or ws 3 []) is)
            (ap (λ (ws : List Word). get_or ws 1 []) is) takes.says again.says
      ]
    ]

sound : IsSound draws
sound = record {
  one = one_draw;
  either = λ asked input fault accepted refused. refused;
  once = λ asked input fault other refused again. absurd refused;
  owed = λ asked input history bytes owes. tt;
}

-- ---- a run

nothing_read : NothingRead no_source
nothing_read = (refl, Keeps-refl no_source.left)

-- words that ask for a draw, and its line
pub drawn : (words : List Word) (asked : Asked) (end : End InputFault) (sink : Writing) → TakesDraw words asked
    → FinishesOwed (IsOwedFor draws asked [] no_history) end sink → IsRun draws words no_source sink end no_history
drawn words asked end sink takes finishes =
    worked draws words asked [] end no_history no_source sink sound takes (refl, nothing_read)
    (works_alone draws asked [] end sink finishes)

none_asked :
    (words : List Word) (stop : WordsStop)
    → (stop ≡ BadWordsStop → (asked : Asked) → ¬ (TakesDraw words asked)) → IsAsked TakesDraw words (Err stop)
none_asked words BadWordsStop none = none refl
none_asked words NoWordsRead none = tt

-- words that ask for none, and theirs
pub refused :
    (words : List Word) (stop : WordsStop) (end : End InputFault) (sink : Writing)
    → (stop ≡ BadWordsStop → (asked : Asked) → ¬ (TakesDraw words asked))
    → RefusesWords stop end sink → IsRun draws words no_source sink end no_history
refused words stop end sink none refuses =
    refused_words draws words stop end no_source sink sound (none_asked words stop none) nothing_read refuses

pub nothing_written :
    {K : Type 0} (written : K → Option (List ℕ)) (faults : K → ℕ) (sink : K)
    → NothingWritten (writing written faults sink sink)
nothing_written written faults sink = (refl, Keeps-refl (written sink))

-- the numbers of an order are those of candidates
pub order-numbers : (order : List ℕ) → IsOrder order → All (λ c. c ≤ 250) order
order-numbers order is =
    All-from_get_or (λ (c : ℕ). c ≤ 250) order 0 (λ i below. omega (arith, (is.candidates i below).1, is.few))

-- and there are few of them
pub asked-few : (seed number : Word) (n : ℕ) → Says seed number n → n ≤ 250
asked-few seed number n says = omega (arith, says.value, says.numeral.most)

-- the same seed by another name
pub owed_alike : (seed other : Word) (n : ℕ) (end : End InputFault) (sink : Writing) → seed ≡ other
    → FinishesOwed (IsOwedFor draws (record { seed = seed; candidates = n }) [] no_history) end sink
    → FinishesOwed (IsOwedFor draws (record { seed = other; candidates = n }) [] no_history) end sink
owed_alike seed other n end sink same =
    subst (λ (s : Word). FinishesOwed (IsOwedFor draws (record { seed = s; candidates = n }) [] no_history)
    end sink) same

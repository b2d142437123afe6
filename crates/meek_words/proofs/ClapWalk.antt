-- How clap's walk goes over all parts.
use Rattle.std.proofs.Common.{◌≡◌, ℕ, ◌≤◌, ◌+◌, suc, true, false, cond, ◌&&◌, List, [], ◌∷◌, ◌++◌, length}
use Rattle.std.proofs.Common.{map, Option, Some, None, refl, sym, ap, ap₂, ◌∙◌, subst, arith, All, fold}
use Rattle.std.specs.List.{flat_map}
use Rattle.std.proofs.lemmas.List.{append-nil, append_assoc, length-append, map_push, nil_from_length}
use Rattle.std.proofs.lemmas.List.Elements.{All-head, All-tail}
use Rattle.clap.specs.Walk.{Row, Text, Walk, walked, used, has_row, settled_rows}
use Rattle.clap.specs.Takes.{turn_passes, settle_passes, walk_passes}
use Rattle.clap.proofs.OnLiterals.{clap_on_literals}
use Rattle.meek_words.specs.Numerals.{Word}
use Rattle.meek_words.specs.Parts.{Part, OneWord, TwoWords, Plain, HasValue, flag_of, words_of, option_of}
use Rattle.meek_words.specs.Parts.{value_of, values_of, same_option}
use Rattle.meek_words.specs.ClapCommand.{id_of, option_rule}
use Rattle.meek_words.specs.declared.option_name.OptionName.{OptionName}
use Rattle.meek_words.specs.declared.option_name.OptionName.TheVariants.{Lots, Shards, Workers}
use Rattle.meek_words.proofs.CutLemmas.{no_hyphen}
use Rattle.meek_words.proofs.FrontLemmas.{values_of-append, same_option-refl, count_push}
use Rattle.meek_words.proofs.ClapRows.{row_for, used_once, used_once-first, no_row}
use Rattle.meek_words.proofs.ClapSteps.{shape, held, between, waiting_for, one_word_walked, one_word_passes}
use Rattle.meek_words.proofs.ClapSteps.{flag_walked, flag_passes, value_walked, value_passes, plain_walked}
use Rattle.meek_words.proofs.ClapSteps.{plain_passes}

-- the walk is after these parts: their rows are there once what is pending is used
pub record Stand (done : List Part) : Type 0 where
  pub rows : List Row
  pub pending : Option (Text × List Text)
  pub settles : settled_rows shape.rules pending rows ≡ map row_for done
  pub passes : settle_passes shape.rules false (held rows pending) ≡ true

-- a plain word moves the walk to the next place
abbrev pub place_behind : List Part → ℕ
place_behind done = suc (length (values_of None done))

abbrev pub walk_at : (done : List Part) → Stand done → Walk
walk_at done stand = between stand.rows stand.pending (place_behind done)

-- the walk goes on from one place to another over these words, and they pass
pub record GoesOver (from : Walk) (words : List Word) (to : Walk) : Type 0 where
  pub walks : (rest : List Word) → fold (walked shape.rules []) from (words ++ rest) ≡ fold (walked shape.rules []) to rest
  pub passes : (rest : List Word) → walk_passes shape [] from (words ++ rest) ≡ walk_passes shape [] to rest

over_one :
    (from to : Walk) (word : Word) → walked shape.rules [] from word ≡ to
    → turn_passes shape [] from word ≡ true → GoesOver from (word ∷ []) to
unfolding walk_passes
over_one from to word walks passes = record {
  walks = λ rest. ap (λ walk. fold (walked shape.rules []) walk rest) walks;
  passes = λ rest. ap₂ (λ b walk. b && walk_passes shape [] walk rest) passes walks;
}

over_two :
    (from middle to : Walk) (one two : Word) → GoesOver from (one ∷ []) middle → GoesOver middle (two ∷ []) to
    → GoesOver from (one ∷ two ∷ []) to
over_two from middle to one two first second = record {
  walks = λ rest. first.walks (two ∷ rest) ∙ second.walks rest;
  passes = λ rest. first.passes (two ∷ rest) ∙ second.passes rest;
}

used_is_once :
    (name : OptionName) (value : Word) (rows : List Row)
    → used (option_rule (id_of (Some name))) (value ∷ []) rows ≡ used_once (Some name) value rows
unfolding clap_on_literals
used_is_once Lots value rows = refl
used_is_once Shards value rows = refl
used_is_once Workers value rows = refl

settled_is_once :
    (option : Option OptionName) (value : Word) (rows : List Row)
    → settled_rows shape.rules (Some (id_of option, value ∷ [])) rows ≡ used_once option value rows
unfolding clap_on_literals
settled_is_once (Some Lots) value rows = refl
settled_is_once (Some Shards) value rows = refl
settled_is_once (Some Workers) value rows = refl
settled_is_once None value rows = refl

settled_once_passes : (option : Option OptionName) (value : Word) (rows : List Row) → has_row (id_of option) rows ≡ false
    → settle_passes shape.rules false (held rows (Some (id_of option, value ∷ []))) ≡ true
unfolding clap_on_literals
settled_once_passes (Some Lots) value rows first = simp first refl
settled_once_passes (Some Shards) value rows first = simp first refl
settled_once_passes (Some Workers) value rows first = simp first refl
settled_once_passes None value rows first = simp first refl

-- ---- one part more

pub record StepsOver (done : List Part) (part : Part) (stand : Stand done) : Type 0 where
  pub next : Stand (done ++ part ∷ [])
  pub goes : GoesOver (walk_at done stand) (words_of part) (walk_at (done ++ part ∷ []) next)

-- the rows of the parts done, with one more use at their end
rows_more :
    (done : List Part) (part : Part) (rows : List Row) → rows ≡ map row_for done
    → values_of (option_of part) done ≡ []
    → used_once (option_of part) (value_of part) rows ≡ map row_for (done ++ part ∷ [])
rows_more done part rows same fresh =
    ap (used_once (option_of part) (value_of part)) same
    ∙ used_once-first (option_of part) (value_of part) (map row_for done) (no_row (option_of part) done fresh)
    ∙ sym (map_push row_for done part)

fresh_row :
    (done : List Part) (option : Option OptionName) (rows : List Row) → rows ≡ map row_for done
    → values_of option done ≡ [] → has_row (id_of option) rows ≡ false
fresh_row done option rows same fresh = ap (has_row (id_of option)) same ∙ no_row option done fresh

place_kept :
    (done : List Part) (part : Part) → same_option None (option_of part) ≡ false
    → place_behind done ≡ place_behind (done ++ part ∷ [])
place_kept done part other =
    let e = count_push None done part ∙ ap (λ b. length (values_of None done) + cond b 1 0) other in
    omega (arith, e)

step_one :
    (done : List Part) (stand : Stand done) (name : OptionName) (value : Word)
    → values_of (Some name) done ≡ [] → StepsOver done (OneWord name value) stand
step_one done stand name value fresh = record {
  next = record {
    rows = used (option_rule (id_of (Some name))) (value ∷ []) (settled_rows shape.rules stand.pending stand.rows);
    pending = None;
    settles =
        used_is_once name value (settled_rows shape.rules stand.pending stand.rows)
        ∙ rows_more done (OneWord name value) (settled_rows shape.rules stand.pending stand.rows)
        stand.settles fresh;
    passes = refl;
  };
  goes = over_one (walk_at done stand) _ (flag_of name ++ 61 ∷ value)
      (one_word_walked name stand.rows stand.pending (place_behind done) value
      ∙ ap (λ place. between (used (option_rule (id_of (Some name))) (value ∷ [])
      (settled_rows shape.rules stand.pending stand.rows)) None place)
      (place_kept done (OneWord name value) refl))
      (one_word_passes name stand.rows stand.pending (place_behind done) value stand.passes
      (fresh_row done (Some name) (settled_rows shape.rules stand.pending stand.rows) stand.settles fresh));
}

step_two :
    (done : List Part) (stand : Stand done) (name : OptionName) (value : Word)
    → HasValue (TwoWords name value) → values_of (Some name) done ≡ []
    → StepsOver done (TwoWords name value) stand
step_two done stand name [] some fresh = absurd some
step_two done stand name (b ∷ value) some fresh =
    let rows = settled_rows shape.rules stand.pending stand.rows in
    let place = place_behind done in
    record {
      next = record {
        rows = rows;
        pending = Some (id_of (Some name), (b ∷ value) ∷ []);
        settles =
            settled_is_once (Some name) (b ∷ value) rows
            ∙ rows_more done (TwoWords name (b ∷ value)) rows stand.settles fresh;
        passes = settled_once_passes (Some name) (b ∷ value) rows (fresh_row done (Some name) rows stand.settles fresh);
      };
      goes = over_two (walk_at done stand) (waiting_for name rows place) _ (flag_of name) (b ∷ value)
          (over_one (walk_at done stand) (waiting_for name rows place) (flag_of name)
          (flag_walked name stand.rows stand.pending place) (flag_passes name stand.rows stand.pending place stand.passes))
          (over_one (waiting_for name rows place) _ (b ∷ value)
          (value_walked name rows place b value (no_hyphen b some)
          ∙ ap (λ p. between rows (Some (id_of (Some name), (b ∷ value) ∷ [])) p)
          (place_kept done (TwoWords name (b ∷ value)) refl))
          (value_passes name rows place b value (no_hyphen b some)));
    }

step_plain :
    (done : List Part) (stand : Stand done) (word : Word) → HasValue (Plain word) → values_of None done ≡ []
    → StepsOver done (Plain word) stand
step_plain done stand [] some fresh = absurd some
step_plain done stand (b ∷ word) some fresh =
    let rows = settled_rows shape.rules stand.pending stand.rows in
    let first : place_behind done ≡ 1 = ap (λ list. suc (length list)) fresh in
    let second : 2 ≡ place_behind (done ++ Plain (b ∷ word) ∷ []) =
    omega (arith, count_push None done (Plain (b ∷ word)), first) in
    record {
      next = record {
        rows = rows;
        pending = Some (id_of None, (b ∷ word) ∷ []);
        settles = settled_is_once None (b ∷ word) rows ∙ rows_more done (Plain (b ∷ word)) rows stand.settles fresh;
        passes = settled_once_passes None (b ∷ word) rows (fresh_row done None rows stand.settles fresh);
      };
      goes = over_one (walk_at done stand) _ (b ∷ word)
          (ap (λ p. walked shape.rules [] (between stand.rows stand.pending p) (b ∷ word)) first
          ∙ plain_walked stand.rows stand.pending b word (no_hyphen b some)
          ∙ ap (λ p. between rows (Some (id_of None, (b ∷ word) ∷ [])) p) second)
          (ap (λ p. turn_passes shape [] (between stand.rows stand.pending p) (b ∷ word)) first
          ∙ plain_passes stand.rows stand.pending b word (no_hyphen b some) stand.passes);
    }

step :
    (done : List Part) (stand : Stand done) (part : Part) → HasValue part
    → values_of (option_of part) done ≡ [] → StepsOver done part stand
step done stand (OneWord name value) some fresh = step_one done stand name value fresh
step done stand (TwoWords name value) some fresh = step_two done stand name value some fresh
step done stand (Plain word) some fresh = step_plain done stand word some fresh

-- ---- all parts

pub record WalksTo (done parts : List Part) (stand : Stand done) : Type 0 where
  pub all : List Part
  pub are : all ≡ done ++ parts
  pub last : Stand all
  pub goes : GoesOver (walk_at done stand) (flat_map words_of parts) (walk_at all last)

-- an option that comes once is not there before
unused :
    (done : List Part) (part : Part) (parts : List Part)
    → length (values_of (option_of part) (done ++ part ∷ parts)) ≤ 1 → values_of (option_of part) done ≡ []
unused done part parts once =
    let option = option_of part in
    let all =
    ap length (values_of-append option done (part ∷ parts))
    ∙ length-append (values_of option done) (values_of option (part ∷ parts)) in
    let here : 1 ≤ length (values_of option (part ∷ parts)) = rw (same_option-refl option) (omega arith) in
    nil_from_length (values_of option done) (omega (arith, all, here, once))

pub walk_parts :
    (done parts : List Part) (stand : Stand done) → All HasValue parts
    → ((option : Option OptionName) → length (values_of option (done ++ parts)) ≤ 1)
    → WalksTo done parts stand
walk_parts done [] stand values once =
    record {
      all = done;
      are = sym (append-nil done);
      last = stand;
      goes = record { walks = λ rest. refl; passes = λ rest. refl };
    }
walk_parts done (part ∷ parts) stand values once =
    let one = step done stand part (All-head HasValue part parts values) (unused done part parts (once (option_of part))) in
    let more = walk_parts (done ++ part ∷ []) parts one.next (All-tail HasValue part parts values)
    (λ option. subst (λ list. length (values_of option list) ≤ 1) (sym (append_assoc done (part ∷ []) parts))
    (once option)) in
    record {
      all = more.all;
      are = more.are ∙ append_assoc done (part ∷ []) parts;
      last = more.last;
      goes = record {
        walks =
            λ rest. ap (fold (walked shape.rules []) (walk_at done stand))
            (append_assoc (words_of part) (flat_map words_of parts) rest)
            ∙ one.goes.walks (flat_map words_of parts ++ rest) ∙ more.goes.walks rest;
        passes =
            λ rest. ap (walk_passes shape [] (walk_at done stand))
            (append_assoc (words_of part) (flat_map words_of parts) rest)
            ∙ one.goes.passes (flat_map words_of parts ++ rest) ∙ more.goes.passes rest;
      };
    }

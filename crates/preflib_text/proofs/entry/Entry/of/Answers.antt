use Rattle.std.proofs.Common.{◌≡◌, ℕ, ◌+◌, ◌-◌, ◌<◌, List, cond, length, take, drop, ap, sym, ◌∙◌, arith}
use Rattle.std.specs.List.{position_or_len, before_first, after_first}
use Rattle.std.proofs.lemmas.List.{take_rest}
use Rattle.preflib_text.specs.Metadata.{Other, is_colon, key_of}
use Rattle.preflib_text.specs.Reading.{kept_key}
use Rattle.preflib_text.specs.Texts.{behind_blanks, trimmed}
use Rattle.preflib_text.proofs.EntryLemmas.{none_passes, some_passes}
use Rattle.preflib_text.proofs.entry.Entry.of.Goals as goal

-- what is after the `#`, as the code has it
text_is : (bytes : List ℕ) → take (length bytes - 1) (drop 1 bytes) ≡ drop 1 bytes
text_is bytes = take_rest bytes 1

module _ (bytes : List ℕ) (colon : ℕ)
    (stop : colon ≡ position_or_len is_colon (take (length bytes - 1) (drop 1 bytes))) where
  at_colon : colon ≡ position_or_len is_colon (drop 1 bytes)
  at_colon = stop ∙ ap (position_or_len is_colon) (text_is bytes)

  front : take colon (take (length bytes - 1) (drop 1 bytes)) ≡ before_first is_colon (drop 1 bytes)
  front = ap (take colon) (text_is bytes) ∙ ap (λ k. take k (drop 1 bytes)) at_colon

  back : let text = take (length bytes - 1) (drop 1 bytes) in
      take (length text - (colon + 1)) (drop (colon + 1) text) ≡ after_first is_colon (drop 1 bytes)
  back =
      take_rest (take (length bytes - 1) (drop 1 bytes)) (colon + 1)
      ∙ ap (drop (colon + 1)) (text_is bytes) ∙ ap (λ k. drop (k + 1) (drop 1 bytes)) at_colon

pub returns-then-colon-text-clause-key : goal.returns-then-colon-text-clause-key
returns-then-colon-text-clause-key c =
    let bytes = c.args.bytes.now in
    let text = drop 1 bytes in
    let none = none_passes is_colon text
    (sym (at_colon bytes c.colon_or_end-colon.result c.colon_or_end-colon.ensures.stop) ∙ c.if-colon-text.true
    ∙ ap length (text_is bytes)) in
    sym (ap (λ b. kept_key (cond b (key_of (trimmed (before_first is_colon text))) Other)) none)

pub returns-clause-key : goal.returns-clause-key
returns-clause-key c =
    let bytes = c.args.bytes.now in
    let text = drop 1 bytes in
    let colon = c.colon_or_end-colon.result in
    let at = at_colon bytes colon c.colon_or_end-colon.ensures.stop in
    let less : position_or_len is_colon text < length text =
    omega (arith, at, c.colon_or_end-colon.ensures.inside, c.if-colon-text.false, ap length (text_is bytes)) in
    c.key_of.ensures
    ∙ ap (λ xs. kept_key (key_of xs))
    (c.trimmed.ensures ∙ ap trimmed (front bytes colon c.colon_or_end-colon.ensures.stop))
    ∙ sym (ap (λ b. kept_key (cond b (key_of (trimmed (before_first is_colon text))) Other))
    (some_passes is_colon text less))

pub returns-clause-value : goal.returns-clause-value
returns-clause-value c =
    c.trimmed-2.ensures
    ∙ ap trimmed (back c.args.bytes.now c.colon_or_end-colon.result c.colon_or_end-colon.ensures.stop)

pub returns-clause-at : goal.returns-clause-at
returns-clause-at c =
    ap (λ (xs : List ℕ). length c.args.bytes.now - length xs)
    (c.behind_blanks-value.ensures
    ∙ ap behind_blanks (back c.args.bytes.now c.colon_or_end-colon.result c.colon_or_end-colon.ensures.stop))

use Rattle.std.proofs.Common.{ℕ, ◌<◌, List, length, if◌then◌else◌, refl, sym, ◌∙◌, ap, subst}
use Rattle.std.specs.Prelude.{Option, Some, None, IfNone}
use Rattle.std.proofs.lemmas.List.{take_rest}
use Rattle.input_text.specs.Token.{Number}
use Rattle.input_text.specs.Reader.{Reader}
use Rattle.input_text.specs.ShortNumber.{IsShortNumber, HasNoNumberWithin, HasNoNumberAhead}
use Rattle.input_text.proofs.Reading.{behind_one}
use Rattle.input_text.proofs.Cutting.{over_number}
use Rattle.input_text.proofs.tokens.Tokens.next_short.Goals as goal

pub returns-clause-number : goal.returns-clause-number
returns-clause-number c =
    let bytes = c.self.inside.bytes.now in
    let found =
    subst (λ (l : List ℕ). IsShortNumber l c.in_ok-n.n c.in_ok-n.len) (take_rest bytes c.self.inside.at)
    c.in_ok-n.ensures.found in
    sym (ap (λ (r : Reader). r.rest) c.self.view_is)
    ∙ over_number c.self.inside.letters bytes c.self.inside.at c.in_ok-n.n c.in_ok-n.len c.self.invariant
    found

pub returns-clause-behind : goal.returns-clause-behind
returns-clause-behind c =
    let bytes = c.self.inside.bytes.now in
    let found =
    subst (λ (l : List ℕ). IsShortNumber l c.in_ok-n.n c.in_ok-n.len) (take_rest bytes c.self.inside.at)
    c.in_ok-n.ensures.found in
    behind_one c.args.self.now _ (record { at = c.self.inside.at; item = Number c.in_ok-n.n })
    (ap (λ (r : Reader). r.bytes) c.self.view_is)
    (sym (ap (λ (r : Reader). r.rest) c.self.view_is)
    ∙ over_number c.self.inside.letters bytes c.self.inside.at c.in_ok-n.n c.in_ok-n.len c.self.invariant found)

-- what holds in any case holds where nothing was found
where_none : {A : Type 0} (found : Option A) (P : Type 0) → P → IfNone found P
where_none (Some x) P holds = tt
where_none None P holds = holds

pub returns-in_err-n-clause-none : goal.returns-in_err-n-clause-none
returns-in_err-n-clause-none c =
    let bytes = c.self.inside.bytes.now in
    let most : ℕ = if c.args.rare then 3 else 4 in
    where_none c.from_residual.result (HasNoNumberAhead most c.args.self.now)
    (subst (HasNoNumberAhead most) c.self.view_is (record {
      letters = c.self.inside.letters;
      at = c.self.inside.at;
      inside = c.self.invariant;
      rest = refl;
      none =
          subst (λ (l : List ℕ). 3 < length l → HasNoNumberWithin most l) (take_rest bytes c.self.inside.at)
          c.in_err-n.ensures.none;
    }))

use Rattle.std.proofs.Common.{◌≡◌, ◌+◌, ◌-◌, ◌<◌, ℕ, get_or, sym, subst, arith}
use Rattle.table_text.specs.Short.{AreDigits}
use Rattle.table_text.proofs.ShortFields.{digits_are, few_digits}
use Rattle.table_text.proofs.fronts.Fronts.short_cell.Goals as goal

pub returns-then-bytes-stop-clause-field : goal.returns-then-bytes-stop-clause-field
returns-then-bytes-stop-clause-field c =
    let fronts = c.args.self.now in
    let bytes = c.args.bytes.now in
    let at = c.args.at in
    let k = at - fronts.at in
    let from = c.requires.covered.from in
    let before = c.requires.covered.before in
    let within : k < fronts.len = omega (arith, from, before) in
    let there : fronts.at + k ≡ at = omega (arith, from) in
    let inside = c.requires.fronts.inside k within in
    let digits : get_or fronts.digits k 0 ≡ c.from.result = sym c.from.ensures in
    let number : get_or fronts.numbers k 0 ≡ c.from-number.result = sym c.from-number.ensures in
    digits_are c.args.separator bytes at (omega (arith, there, inside)) c.requires.apart.no_quote
    c.requires.apart.no_digit (c.from.result, c.from-number.result)
    (subst (λ (n : ℕ). AreDigits (get_or bytes n 0) (get_or bytes (n + 1) 0) (c.from.result, c.from-number.result)) there
    (subst (λ (d : ℕ). AreDigits (get_or bytes (fronts.at + k) 0) (get_or bytes (fronts.at + k + 1) 0)
    (d, c.from-number.result)) digits
    (subst (λ (n : ℕ). AreDigits (get_or bytes (fronts.at + k) 0) (get_or bytes (fronts.at + k + 1) 0)
    (get_or fronts.digits k 0, n)) number (c.requires.fronts.each k within))))
    c.if-bytes-stop.true

pub returns-then-bytes-stop-clause-inside : goal.returns-then-bytes-stop-clause-inside
returns-then-bytes-stop-clause-inside c =
    let fronts = c.args.self.now in
    let k = c.args.at - fronts.at in
    let from = c.requires.covered.from in
    let before = c.requires.covered.before in
    let within : k < fronts.len = omega (arith, from, before) in
    let inside = c.requires.fronts.inside k within in
    let few = few_digits _ _ _ (c.requires.fronts.each k within) in
    let digits : get_or fronts.digits k 0 ≡ c.from.result = sym c.from.ensures in
    omega (arith, from, inside, few, digits)

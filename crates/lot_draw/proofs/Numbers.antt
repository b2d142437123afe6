-- Numbers that are read byte by byte.
use Rattle.std.proofs.Common.{◌≡◌, sym, ap, ◌∙◌, ℕ, ◌+◌, ◌*◌, ◌/◌, ◌%◌, ◌^◌, ◌<◌, suc, List, [], ◌∷◌, ◌++◌}
use Rattle.std.proofs.Common.{length, take, get_or, arith, length-append, pow-suc}
use Rattle.std.proofs.Math.Nat.{mul-add-mod_self_left}
use Rattle.std.proofs.lemmas.List.{take_more}
use Rattle.lot_draw.specs.Draw.{big_endian}

-- one more byte at the end
pub big_endian-push : (bytes : List ℕ) (b : ℕ) → big_endian (bytes ++ b ∷ []) ≡ big_endian bytes * 256 + b
big_endian-push [] b = omega arith
big_endian-push (x ∷ bytes) b =
    let one_more : length (bytes ++ b ∷ []) ≡ suc (length bytes) = omega (arith, length-append bytes (b ∷ [])) in
    let worth : 256 ^ length (bytes ++ b ∷ []) ≡ 256 ^ length bytes * 256 =
    ap (λ (k : ℕ). 256 ^ k) one_more ∙ pow-suc 256 (length bytes) in
    ap (λ (q : ℕ). x * q + big_endian (bytes ++ b ∷ [])) worth ∙ omega (arith, big_endian-push bytes b)

-- a remainder is enough to read on from
mod-more : (x b m : ℕ) → 0 < m → (x % m * 256 + b) % m ≡ (x * 256 + b) % m
mod-more x b m some =
    let parts : m * (x / m) + x % m ≡ x = omega arith in
    let whole : m * (256 * (x / m)) + (x % m * 256 + b) ≡ x * 256 + b = omega (arith, parts) in
    sym (mul-add-mod_self_left m (256 * (x / m)) (x % m * 256 + b)) ∙ ap (λ (q : ℕ). q % m) whole

pub remainder-more :
    (bytes : List ℕ) (i m rest : ℕ) → i < length bytes → 0 < m → rest ≡ big_endian (take i bytes) % m
    → (rest * 256 + get_or bytes i 0) % m ≡ big_endian (take (i + 1) bytes) % m
remainder-more bytes i m rest below some is =
    ap (λ (r : ℕ). (r * 256 + get_or bytes i 0) % m) is
    ∙ mod-more (big_endian (take i bytes)) (get_or bytes i 0) m some
    ∙ ap (λ (q : ℕ). q % m)
    (sym (ap big_endian (take_more bytes i 0 below) ∙ big_endian-push (take i bytes) (get_or bytes i 0)))

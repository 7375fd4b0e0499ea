-- How often a range of cylinders is divided into eight.
use Rattle.fb_detour.proofs.Words.{ap, arith, suc, zero, ℕ, ◌*◌, ◌+◌, ◌-◌, ◌<◌, ◌^◌, ◌≡◌, ◌≤◌}
use Rattle.std.proofs.Math.Nat.{one-le-pow, pow-le-pow_right}
use Rattle.std.proofs.lemmas.Grind.{pow_more}

-- more than one cylinder can be divided
pub some_level : (n level : ℕ) → 1 < n → n ≤ 8 ^ level → 0 < level
some_level n zero some whole = absurd (omega (arith, some, whole))
some_level n (suc level) some whole = omega arith

-- the parts make up the range
pub covered : (n level : ℕ) → 1 < n → n ≤ 8 ^ level → n ≤ 8 * 8 ^ (level - 1)
covered n level some whole =
    let more : 8 ^ (level - 1 + 1) ≡ 8 ^ (level - 1) * 8 = pow_more 8 (level - 1) in
    let same : 8 ^ (level - 1 + 1) ≡ 8 ^ level = ap (λ l. 8 ^ l) (omega (arith, some_level n level some whole)) in
    omega (arith, whole, more, same)

-- a part is not empty
pub some_width : (level : ℕ) → 0 < 8 ^ level
some_width level = omega (arith, one-le-pow level 8 (omega arith))

-- and not wide
pub narrow : (level : ℕ) → level ≤ 7 → 8 ^ (level - 1) ≤ 262144
narrow level shallow = omega (arith, pow-le-pow_right {n = 8} (omega arith) {i = level - 1} {j = 6} (omega (arith, shallow)))

-- How deep the search divides cylinders.
use Rattle.std.specs.Prelude.{ℕ, zero, suc, ◌+◌, ◌-◌, ◌^◌, ◌&&◌, nat_le, nat_lt, min, max, if◌then◌else◌}
use Rattle.fb_rows.specs.declared.gap.Gap.{Gap}

-- how many of the first n powers of two are at most this number
unfoldable pub powers_upto : ℕ → ℕ → ℕ
powers_upto zero most = 0
powers_upto (suc n) most = (if nat_le (2 ^ n) most then 1 else 0) + powers_upto n most

-- how many powers of two are, the number of its binary digits
unfoldable pub digits_of : ℕ → ℕ
digits_of number = powers_upto number number

-- 1 if the cylinder lies behind the first of the range and before its end, else 0
unfoldable pub divides : ℕ → ℕ → ℕ → ℕ
divides cylinder from end = if nat_lt from cylinder && nat_lt cylinder end then 1 else 0

-- how often a range can be divided at most: beside the tracks of the gap on either side, and else in halves
unfoldable pub depth : Gap → ℕ → ℕ → ℕ
depth gap from end = divides (min gap.source.cylinder gap.target.cylinder) from end
    + divides (max gap.source.cylinder gap.target.cylinder + 1) from end
    + digits_of (end - from - 1)

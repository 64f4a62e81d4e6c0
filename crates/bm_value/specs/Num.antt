-- The whole numbers that MessagePack has: from -2^63 to 2^64-1.
use Rattle.std.specs.Prelude.{◌≡◌, ◌<◌, ◌^◌, ℕ, ℤ, pos, negsuc, Bool, true, false, refl}

abbrev pub IsNum : ℤ → Type 0
IsNum (pos n) = n < 2 ^ 64
IsNum (negsuc n) = n < 2 ^ 63

-- the number so far above 0, or below -1 where it is negative
abbrev pub signed : Bool → ℕ → ℤ
signed false n = pos n
signed true n = negsuc n

abbrev pub is_below : ℤ → Bool
is_below (pos n) = false
is_below (negsuc n) = true

abbrev pub distance_of : ℤ → ℕ
distance_of (pos n) = n
distance_of (negsuc n) = n

pub is_below-signed : (b : Bool) (n : ℕ) → is_below (signed b n) ≡ b
is_below-signed false n = refl
is_below-signed true n = refl

pub distance_of-signed : (b : Bool) (n : ℕ) → distance_of (signed b n) ≡ n
distance_of-signed false n = refl
distance_of-signed true n = refl

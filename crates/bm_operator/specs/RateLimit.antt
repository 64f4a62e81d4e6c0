-- How many things a second are let through.
use Rattle.std.specs.Prelude.{ℕ, ◌+◌, ◌-◌, ◌^◌, ◌==◌, Bool, nat_lt, if◌then◌else◌, min}

-- How many things a second are let through, the second of the last thing, and how many were let
-- through in it. Also how many were left out that nobody took.
pub record Allowance : Type 0 where
  pub most : ℕ
  pub second : ℕ
  pub allowed : ℕ
  pub left_out : ℕ

-- nothing has happened
abbrev pub allowance : ℕ → Allowance
allowance most = record { most = most; second = 0; allowed = 0; left_out = 0 }

-- how many were let through in this second
abbrev pub allowed_in : Allowance → ℕ → ℕ
allowed_in l second = if l.second == second then l.allowed else 0

-- a thing is let through where fewer than the most were in its second
abbrev pub is_allowed : Allowance → ℕ → Bool
is_allowed l second = nat_lt (allowed_in l second) l.most

-- what follows: the thing is let through, or counted, up to 2^64-1
abbrev pub limit_after : Allowance → ℕ → Allowance
limit_after l second =
    record {
      most = l.most;
      second = second;
      allowed = if is_allowed l second then allowed_in l second + 1 else allowed_in l second;
      left_out = if is_allowed l second then l.left_out else min (l.left_out + 1) (2 ^ 64 - 1);
    }

-- a thing happens in this second
abbrev pub limit_at : Allowance → ℕ → Allowance
limit_at l second =
    record {
      most = l.most;
      second = second;
      allowed = allowed_in l second;
      left_out = l.left_out;
    }

-- it is left out, however few there were, and counted
abbrev pub left_out_after : Allowance → ℕ → Allowance
left_out_after l second =
    record (limit_at l second) { left_out = min (l.left_out + 1) (2 ^ 64 - 1) }

-- those left out before this second
abbrev pub left_out_before : Allowance → ℕ → ℕ
left_out_before l second = if l.second == second then 0 else l.left_out

-- some were left out
abbrev pub is_left_out : Allowance → Bool
is_left_out l = nat_lt 0 l.left_out

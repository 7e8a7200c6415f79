-- The grounds owe what every field owes. Nothing here is a definition that a contract rests on. Assumes nothing.
use Rattle.std.specs.Prelude.{◌≡◌, ℕ, ◌/◌, ◌%◌, ◌^◌, ◌<◌, ◌≤◌, Bool, true, false, cond, ◌&&◌, Ok, Err, nat_lt, refl}
use Rattle.std.proofs.Common.{subst, arith}
use Rattle.std.proofs.lemmas.Nat.{xor_lt}
use Rattle.std.proofs.lemmas.Bool.{and_left, and_parts, ltb-true}
use Rattle.grid.specs.declared.blank.Blank.{Blank}
use Rattle.grid.specs.declared.cell.Cell.{Cell}
use Rattle.grid.specs.Meanings.{Height, Lawful, own_blank}
use Rattle.grid.specs.Places.{inside}
use Rattle.grounds.specs.Constants.{constant}
use Rattle.grounds.specs.Noises.{noise, noise_height}
use Rattle.grounds.specs.Splitmix.{folded}

-- an answer that is a height or a blank by a test
chosen : (t : Bool) (n h : ℕ) (b : Blank) → (t ≡ true → Height n) → cond t (Ok n) (Err b) ≡ Ok h → Height h
chosen true n h b tall e = let s : n ≡ h = cc in subst Height s (tall refl)
chosen false n h b tall e = absurd cc

-- the top 12 bits of 64
top_bits : (y : ℕ) → folded (y % 2 ^ 64) 31 / 2 ^ 52 ≤ 65534
top_bits y =
    let low : y % 2 ^ 64 < 2 ^ 64 = omega arith in
    let z = xor_lt 64 (y % 2 ^ 64) (y % 2 ^ 64 / 2 ^ 31) low (omega arith) in
    omega arith

noise_tall : (seed : ℕ) (c : Cell) → Height (noise_height seed c)
noise_tall seed c = top_bits _

pub noise_lawful : (seed : ℕ) → Lawful (noise seed)
noise_lawful seed = record {
  beyond = λ c e. rw e;
  heights = λ c h e. chosen (inside c) (noise_height seed c) h (own_blank c) (λ _. noise_tall seed c) e;
}

pub constant_lawful : (n : ℕ) → Lawful (constant n)
constant_lawful n = record {
  beyond = λ c e. rw (and_left (inside c) (nat_lt n 65535) e);
  heights = λ c h e. chosen (inside c && nat_lt n 65535) n h (own_blank c) (λ t. let l = ltb-true n 65535 (and_parts (inside c) (nat_lt n 65535) t).1 in omega arith) e;
}

-- The moment of equal strips on one side of a level, by the force and the sum of the two ways: far² - near² is (far - near)(far + near).
use Rattle.std.proofs.Common.{◌≡◌, ℕ, ◌+◌, ◌-◌, ◌*◌, ◌^◌, ◌≤◌, mul-le-mul_left, arith}
use Rattle.section.specs.Blocks.{IsBetween}

pub factored : (w near far : ℕ) → near ≤ far → IsBetween w near far (w * (far - near), w * (far - near) * (far + near))
factored w near far l =
    let q : near + (far - near) ≡ far = omega arith in
    record { force_is = rw q at (line near (far - near)); moment_is = rw q at (square near (far - near)) }
  where
    line : (y d : ℕ) → w * d + w * y ≡ w * (y + d)
    line y d = omega arith

    square : (y d : ℕ) → w * d * ((y + d) + y) + w * (y * y) ≡ w * ((y + d) * (y + d))
    square y d = omega arith

-- as many strips as there are give no more than the block, and their moment fits
pub part_light : (w d height : ℕ) → d ≤ height → w * height ≤ 2 ^ 36 → w * d ≤ 2 ^ 36
part_light w d height l light = let m = mul-le-mul_left w l in omega arith

pub factored_small : (w near far : ℕ) → near ≤ far → far ≤ 4096 → w * (far - near) ≤ 2 ^ 36 → w * (far - near) * (far + near) ≤ 2 ^ 49
factored_small w near far l b s =
    let m = mul-le-mul_left (w * (far - near)) (let x : far + near ≤ 8192 = omega arith in x) in
    let t : w * (far - near) * 8192 ≤ 2 ^ 49 = omega arith in
    omega arith

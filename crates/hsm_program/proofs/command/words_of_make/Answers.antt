use Rattle.std.proofs.Common.{refl}
use Rattle.hsm_program.proofs.MakeWords.{greatest, large_seed, least, many, more, seed_sign, seed_zero, count_sign, without_seed, zero}
use Rattle.hsm_program.proofs.command.words_of_make.Goals as goal

pub returns : goal.returns
returns c = record {
  least = least;
  greatest = greatest;
  fewer = (refl, without_seed);
  more = more;
  many = many;
  large_seed = large_seed;
  zero = zero;
  seed_zero = seed_zero;
  sign = count_sign;
  seed_sign = seed_sign;
}

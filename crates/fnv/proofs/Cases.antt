-- The published values of 32-bit FNV-1a: of no bytes, of "a" and of "foobar". Assumes nothing.
use Rattle.std.proofs.Common.{◌≡◌, [], ◌∷◌, refl}
use Rattle.fnv.specs.Fnv.{hash_step, hash_from, hash_of}

pub of-nothing : hash_of [] ≡ 2166136261
unfolding hash_of hash_from
of-nothing = refl

pub of-a : hash_of (97 ∷ []) ≡ 0xE40C292C
unfolding hash_of hash_from hash_step
of-a = refl

pub of_foobar : hash_of (102 ∷ 111 ∷ 111 ∷ 98 ∷ 97 ∷ 114 ∷ []) ≡ 0xBF9CF968
unfolding hash_of hash_from hash_step
of_foobar = refl

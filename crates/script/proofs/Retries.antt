-- What a reader has left after reads that gave nothing.
use Rattle.std.proofs.Common.{◌∙◌, ℕ, List, Option, Some, None, refl}
use Rattle.std.specs.Io.KnownBytes.{Keeps}

pub keeps : (a : Option (List ℕ)) → Keeps a a
keeps None = tt
keeps (Some xs) = refl

pub keeps-both : (a b c : Option (List ℕ)) → Keeps a b → Keeps b c → Keeps a c
keeps-both None b c p q = tt
keeps-both (Some xs) None c p q = absurd p
keeps-both (Some xs) (Some ys) None p q = absurd q
keeps-both (Some xs) (Some ys) (Some zs) p q = q ∙ p

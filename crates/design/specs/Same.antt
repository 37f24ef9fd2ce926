-- Document 01, "A design": "Pairs beyond m are not read; .. sets are compared without them."
use Rattle.std.specs.Prelude.{◌≡◌}
use Rattle.design.specs.declared.Design.{Design}
use Rattle.design.specs.Cut.{tables}

-- Two designs of which the same is read.
pub record Same (d e : Design) : Type 0 where
  pub kind : d.kind ≡ e.kind
  pub w : d.w ≡ e.w
  pub q : d.q ≡ e.q
  pub g : d.g ≡ e.g
  pub alpha : d.alpha ≡ e.alpha
  pub m : d.m ≡ e.m
  pub tables : tables d ≡ tables e

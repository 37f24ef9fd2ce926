-- `counting::Words::count_all` meets its contract: before an interval, the words below it are counted.
use mathlib.Core.Path.{◌≡◌, refl, ◌∙◌}
use Prim.Native.Nat.{ℕ, ◌-◌, ◌*◌, ◌^◌}
use native.Mathlib.Nat.{zero-mul}
use native.Mathlib.Omega.{arith}
use Rattle.design.proofs.LegalLaws.{limits}
use Rattle.tables.specs.declared.sums.TableSet.{TableSet}
use Rattle.tables.proofs.IntervalLaws.{Intervals, intervals-of}
use Rattle.counting.specs.declared.Class.{Class}
use Rattle.counting.specs.declared.Counts.{Counts}
use Rattle.counting.specs.Count.{counts_below}
use Rattle.counting.proofs.CountLaws.{counts-none}
use Rattle.counting.proofs.Words.count_all.Goals as goal

-- Before the first interval
zeros : {outside nearest faithful low high : ℕ} → outside ≡ 0 → nearest ≡ 0 → faithful ≡ 0 → low ≡ 0 → high ≡ 0
    → ◌≡◌ {A = Counts}
    (record { outside = outside; nearest = nearest; faithful = faithful; low = low; high = high })
    (record { outside = 0; nearest = 0; faithful = 0; low = 0; high = 0 })
zeros outside nearest faithful low high = rw (outside, nearest, faithful, low, high)

none_yet : (classes : ℕ → Class) (rests : ℕ) (counts : Counts)
    → (counts.outside ≡ 0) × ((counts.nearest ≡ 0) × ((counts.faithful ≡ 0) × ((counts.low ≡ 0) × (counts.high ≡ 0))))
    → counts ≡ counts_below (0 * rests) classes
none_yet classes rests counts z = zeros z.0 z.1.0 z.1.1.0 z.1.1.1.0 z.1.1.1.1 ∙ rw zero-mul (counts-none classes)

-- the intervals of the set, all of them
counted : (set : TableSet) {intervals : ℕ} → intervals ≡ 2 ^ set.tables.design.alpha
    → Intervals set.tables.design intervals (2 ^ (set.tables.design.w - set.tables.design.alpha))
counted set told = intervals-of _ (limits _ set.tables.legal) told refl

pub pow2-intervals-requires : goal.pow2-intervals-requires
pow2-intervals-requires c = omega (arith, (limits _ c.args.self.set.tables.legal).alpha-high)

pub overflow_cast-intervals : goal.overflow_cast-intervals
overflow_cast-intervals c = omega (arith, (counted c.args.self.set c.pow2-intervals.ensures).intervals-small)

pub loop-interval-init : goal.loop-interval-init
loop-interval-init c = none_yet _ _ _ c.default-counts.ensures

pub count_interval-requires-clause-interval_bound : goal.count_interval-requires-clause-interval_bound
count_interval-requires-clause-interval_bound c =
    omega (arith, (counted c.args.self.set c.pow2-intervals.ensures).intervals-is, c.loop-interval-test.true)

pub returns : goal.returns
returns c =
    let all : c.loop-interval.interval ≡ c.pow2-intervals.result = omega arith in
    rw (all, (counted c.args.self.set c.pow2-intervals.ensures).product) at c.loop-interval.invariant

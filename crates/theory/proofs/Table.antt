-- The table of cases, by computing. Assumes nothing.
use Rattle.std.proofs.Common.{refl}
use mathlib.Core.List.{flat_map, flatten}
use Rattle.rules.specs.Bounds.{upper_in, up_drag_in, work_along}
use Rattle.rules.specs.Edges.{same_edge, across, along, inside}
use Rattle.rules.specs.Energy.{has, is_field, keeps, is_stream}
use Rattle.rules.specs.Finer.{finer, carried}
use Rattle.rules.specs.Lawful.{edges, outline_edges, times, paired, outlined, held, agree, one_temperature, before, parted, apart, clear, all_clear, lawful}
use Rattle.rules.specs.Limits.{modest, mild, modest_plate, marked}
use Rattle.rules.specs.Numbers.{point_at, triangle_at, outline_at}
use Rattle.rules.specs.Plates.{noted}
use Rattle.rules.specs.Settled.{admitted, resists, settled, joined, group, admitted_stream, resists_stream, settled_stream}
use Rattle.rules.specs.Table.{RowA, RowB, RowC, RowD, RowE, RowF, Slanted, LawsAlone, PlateLimits, ValueLimits, FinerAndCarried, SettledFields, SettledStreams, FirstRefusals, TableHolds}
use Rattle.rules.specs.Triangles.{area2, weighed, turned, norm}
use Rattle.rules.specs.Verdicts.{plate_verdict, fills, gives, field_verdict, stream_verdict, bounds_verdict, settle_verdict, settle_stream_verdict, finer_verdict, carry_verdict}
use Rattle.rules.specs.Within.{gentle_over, upper_within, drag_within}
use Rattle.rules.specs.Written.{written, finer_numbers, carried_numbers}

-- carries the list of all that has to be computed
computing : Unit {0}
unfolding flat_map flatten area2 weighed turned norm upper_in up_drag_in work_along gentle_over upper_within drag_within noted point_at triangle_at outline_at
    modest mild modest_plate marked same_edge across along inside edges outline_edges times paired outlined held agree one_temperature before parted apart
    clear all_clear lawful has is_field keeps is_stream finer carried written finer_numbers carried_numbers plate_verdict fills gives
    field_verdict stream_verdict bounds_verdict settle_verdict settle_stream_verdict finer_verdict carry_verdict admitted resists settled joined group
    admitted_stream resists_stream settled_stream
computing = tt

row_a : RowA
unfolding computing
row_a = (refl, refl, refl, refl, refl, refl, refl)

row_b : RowB
unfolding computing
row_b = (refl, refl, refl, refl, refl)

row_c : RowC
unfolding computing
row_c = (refl, refl, refl, refl, refl, refl)

row_d : RowD
unfolding computing
row_d = (refl, refl, refl, refl, refl, refl, refl)

row_e : RowE
unfolding computing
row_e = (refl, refl, refl, refl, refl, refl, refl, refl, refl)

row_f : RowF
unfolding computing
row_f = refl

slanted : Slanted
unfolding computing
slanted = (refl, refl, refl)

laws_alone : LawsAlone
unfolding computing
laws_alone = (refl, (refl, refl), (refl, refl), (refl, refl), (refl, refl), (refl, refl), (refl, refl), (refl, refl))

plate_limits : PlateLimits
unfolding computing
plate_limits = (refl, refl, refl, refl, refl, refl, refl, refl, refl, refl, refl, refl, refl, refl, refl)

value_limits : ValueLimits
unfolding computing
value_limits = (refl, refl, refl, refl, refl, refl, refl, refl, refl, refl, refl, refl, refl, refl, refl, refl, refl, refl)

finer_and_carried : FinerAndCarried
unfolding computing
finer_and_carried = (refl, refl, refl, refl, refl, refl, refl, refl, refl, refl, refl, refl, refl, refl, refl, refl, refl, refl, refl, refl, refl)

settled_fields : SettledFields
unfolding computing
settled_fields = (refl, refl, refl, refl, refl, refl, refl, refl, refl)

settled_streams : SettledStreams
unfolding computing
settled_streams = (refl, refl, refl, refl, refl, refl, refl, refl, refl, refl, refl, refl, refl, refl, refl, refl, refl, refl)

first_refusals : FirstRefusals
unfolding computing
first_refusals = (refl, refl, refl, refl, refl, refl, refl, refl, refl, refl)

pub table_holds : TableHolds
table_holds =
    record {
      a = row_a;
      b = row_b;
      c = row_c;
      d = row_d;
      e = row_e;
      f = row_f;
      slanted = slanted;
      laws_alone = laws_alone;
      plate_limits = plate_limits;
      value_limits = value_limits;
      finer_and_carried = finer_and_carried;
      settled_fields = settled_fields;
      settled_streams = settled_streams;
      first_refusals = first_refusals;
    }

-- The types that MAVLink names for values.
use Rattle.std.specs.Prelude.{ℕ}
use Rattle.param_tree.specs.declared.Kind.{Kind}
use Rattle.param_tree.specs.declared.Kind.TheVariants.{I8, I16, I32, F32, Vec3}

-- MAV_PARAM_TYPE of MAVLink's common message set: INT8, INT16, INT32, REAL32
abbrev pub mav_type_of : Kind → ℕ
mav_type_of I8 = 2
mav_type_of I16 = 4
mav_type_of I32 = 6
mav_type_of F32 = 9
mav_type_of Vec3 = 9

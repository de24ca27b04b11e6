-- Tests of a context, one after another.
use Rattle.std.proofs.Common.{◌≡◌, Bool, true, false, not, ◌&&◌, List, Some, refl}
use Rattle.gnb_types.specs.declared.plans.SnStatus.{SnStatus}
use Rattle.unit_defs.specs.Messages.{statuses_of, are_bearers}
use Rattle.unit_defs.specs.CuUpRecords.{CuUpContext}
use Rattle.unit_defs.specs.CuUp.{names}
use Rattle.unit_defs.specs.octet_defs.Codec.{Codec, octet_way}
use Rattle.cu_user.specs.cu_up_rows.Modes.{may_know, may_resume}

pub is_not : (a n : Bool) → a ≡ true → false ≡ (not a && n)
is_not true n e = refl
is_not false n e = cc

pub is_so : (a n x : Bool) → a ≡ false → x ≡ n → x ≡ (not a && n)
is_so false n x e h = h
is_so true n x e h = cc

pub goes_on_to : (a n x : Bool) → a ≡ true → x ≡ n → x ≡ (a && n)
goes_on_to true n x e h = h
goes_on_to false n x e h = cc

pub ends_at : (a n : Bool) → a ≡ false → false ≡ (a && n)
ends_at false n e = refl
ends_at true n e = cc

pub is_off : (a : Bool) → not a ≡ true → a ≡ false
is_off false e = refl
is_off true e = cc

pub is_on : (a : Bool) → not a ≡ false → a ≡ true
is_on true e = refl
is_on false e = cc

first_is : (a b : Bool) → true ≡ (a && not b) → a ≡ true
first_is true b e = refl
first_is false b e = cc

first_not : (a b : Bool) → true ≡ (not a && b) → a ≡ false
first_not false b e = refl
first_not true b e = cc

-- what may go on itself is frozen, and what may go on from statuses has none
pub is_frozen_where : (codec : Codec) (c : CuUpContext) → true ≡ may_resume codec (Some c) → c.flags.frozen ≡ true
is_frozen_where codec c e = first_is c.flags.frozen c.flags.released e

pub is_new_where : (codec : Codec) (ss : List SnStatus) (c : CuUpContext) → true ≡ may_know codec ss (Some c) → c.flags.may_serve ≡ false
is_new_where codec ss c e = first_not c.flags.may_serve (are_bearers (names (octet_way codec) c) (statuses_of ss)) e

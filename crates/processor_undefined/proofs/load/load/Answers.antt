-- `processor_undefined::load::load`: the rows that load, and the others.
use Rattle.std.proofs.Common.{sym, arith}
use Rattle.processor_undefined.proofs.Loads.{row-48, row-49, row-51, row-56, row-57, row-59, loads-nothing}
use Rattle.processor_undefined.proofs.load.load.Goals as goal

pub returns-in-48 : goal.returns-in-48
returns-in-48 c =
    let a = c.args in
    λ sys pc psw mode m.
    rw (
      row-48 a.first a.second c.in-48.is,
      ← c.extend-disp.ensures,
      ← c.get-base.ensures,
      ← c.wrapping_add_u32-address.ensures.value,
    )
    (c.undefined.ensures.0 m)

pub returns-in-49 : goal.returns-in-49
returns-in-49 c =
    let a = c.args in
    λ sys pc psw mode m.
    rw (
      row-49 a.first a.second c.in-49.is,
      ← c.extend-disp.ensures,
      ← c.get-base.ensures,
      ← c.wrapping_add_u32-address.ensures.value,
    )
    (c.undefined-in-49.ensures.0 m)

pub returns-in-51 : goal.returns-in-51
returns-in-51 c =
    let a = c.args in
    λ sys pc psw mode m.
    rw (
      row-51 a.first a.second c.in-51.is,
      ← c.extend-disp.ensures,
      ← c.get-base.ensures,
      ← c.wrapping_add_u32-address.ensures.value,
    )
    (c.undefined-in-51.ensures.0 m)

pub returns-in-56 : goal.returns-in-56
returns-in-56 c =
    let a = c.args in
    λ sys pc psw mode m.
    rw (
      row-56 a.first a.second c.in-56.is,
      ← c.extend-disp.ensures,
      ← c.get-base.ensures,
      ← c.wrapping_add_u32-address.ensures.value,
    )
    (c.undefined-in-56.ensures.0 m)

pub returns-in-57 : goal.returns-in-57
returns-in-57 c =
    let a = c.args in
    λ sys pc psw mode m.
    rw (
      row-57 a.first a.second c.in-57.is,
      ← c.extend-disp.ensures,
      ← c.get-base.ensures,
      ← c.wrapping_add_u32-address.ensures.value,
    )
    (c.undefined-in-57.ensures.0 m)

pub returns-in-59 : goal.returns-in-59
returns-in-59 c =
    let a = c.args in
    λ sys pc psw mode m.
    rw (
      row-59 a.first a.second c.in-59.is,
      ← c.extend-disp.ensures,
      ← c.get-base.ensures,
      ← c.wrapping_add_u32-address.ensures.value,
    )
    (c.undefined-in-59.ensures.0 m)

pub returns-in_default : goal.returns-in_default
returns-in_default c =
    let a = c.args in
    let n = c.in_default.in_default-own.rest in
    λ sys pc psw mode m.
    sym (loads-nothing a.first a.second _ m (omega (arith, c.ranges.first))
    n.0.0.0.0.0.1 n.0.0.0.0.1 n.0.0.0.1 n.0.0.1 n.0.1 n.1)

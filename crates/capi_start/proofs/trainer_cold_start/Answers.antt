use mathlib.Core.Path.{◌∙◌}
use native.Mathlib.Omega.{arith}
use lib.ListN.{length}
use borrow.Author.Tests.{le-leb}
use Rattle.layout.specs.Directory.{directory_size}
use Rattle.capi_start.specs.Start.{chosen, choosable, start_returned, start_cache, start_directory}
use Rattle.capi_start.proofs.StartLaws.{start_number, start_given}
use Rattle.capi_start.proofs.trainer_cold_start.Goals as goal

pub returns-in-Ok : goal.returns-in-Ok
unfolding chosen choosable start_returned start_cache start_directory
returns-in-Ok c =
    let e = le-leb directory_size (length c.args.directory.now) (omega arith) in
    let f = le-leb _ 15 c.if-write_through-gt15.false in
    let g = le-leb _ 1 c.if-steal-gt1.false in
    let n = rw c.in-Ok.is at (start_number _ _ _ _ c.cold_start.ensures.0) in
    let d = start_given _ _ _ c.in-Ok.started (rw c.in-Ok.is at c.cold_start.ensures.0) in
    (rw (e, f, g) n, rw (e, f, g) c.cold_start.ensures.1, rw (f, g) (rw (d, c.settings_of-settings.ensures) at c.encode.ensures))

pub returns-in-Err : goal.returns-in-Err
unfolding chosen choosable start_returned start_cache start_directory
returns-in-Err c =
    let e = le-leb directory_size (length c.args.directory.now) (omega arith) in
    let f = le-leb _ 15 c.if-write_through-gt15.false in
    let g = le-leb _ 1 c.if-steal-gt1.false in
    let n = rw c.in-Err.is at (start_number _ _ _ _ c.cold_start.ensures.0) in
    let d = rw c.in-Err.is at c.cold_start.ensures.2 in
    (rw (e, f, g) (c.into-in-Err.ensures ∙ n), rw (e, f, g) c.cold_start.ensures.1, rw (f, g) (rw (d, c.settings_of-settings.ensures) at c.encode-in-Err.ensures))

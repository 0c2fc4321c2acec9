-- What is printed lies in its text.
use Rattle.std.proofs.Common.{sym, length-take-le}
use Rattle.transcript.proofs.Printed.{put_fits}
use Rattle.runimage.proofs.main.Goals as goal

pub slice_bounds-text-end : goal.slice_bounds-text-end
slice_bounds-text-end c = put_fits _ c.run_image-size.array_long c.run_image-size.ensures

pub slice_bounds-write_all-end : goal.slice_bounds-write_all-end
slice_bounds-write_all-end c =
    sym (length-take-le _ _ (put_fits _ c.run_image-size.array_long c.run_image-size.ensures))

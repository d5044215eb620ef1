-- What a fault on a page is to those who read the hidden part.
use Rattle.flash_pages.specs.declared.fault.PageFault.{PageFault}
use Rattle.flash_pages.specs.declared.fault.PageFault.TheVariants as page_fault
use Rattle.flash_build.specs.declared.faults.ReadFault.{ReadFault}
use Rattle.flash_build.specs.declared.faults.ReadFault.TheVariants.{Flash, Damaged}

abbrev pub read_fault : PageFault → ReadFault
read_fault page_fault.Flash = Flash
read_fault (page_fault.Damaged page slot found) = Damaged page slot found

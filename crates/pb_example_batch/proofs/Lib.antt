mod Printouts

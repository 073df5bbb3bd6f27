mod Certifying
